-- The JSON of why packets have their outcomes: its text reads as it, and what it says can be told from it.
use Rattle.std.proofs.Common.{◌≡◌, ◌∙◌, ◌==◌, ◌&&◌, ◌<◌, ◌^◌, ℕ, zero, suc, Bool, true, false, cond, IsTrue, List, [], ◌∷◌, length, map, codes, nat_le, Option, Some, None, refl, sym, ap, arith}
use Rattle.std.specs.List.{list_all}
use Rattle.std.proofs.lemmas.Bool.{and_parts}
use Rattle.serde_json.specs.Data.{Data, null, string, object, Items, no_items, item, Members, no_members, member}
use Rattle.serde_json.specs.View.{items_of}
use Rattle.ov_types.specs.Name.{is_name}
use Rattle.ov_types.proofs.Names.{name_is_utf8}
use Rattle.ov_types.specs.declared.numbers.PortNo.{PortNo}
use Rattle.ov_types.specs.declared.numbers.ServiceNo.{ServiceNo}
use Rattle.ov_types.specs.declared.packet.Outcome.{Outcome}
use Rattle.ov_types.specs.declared.packet.Outcome.TheVariants as Comes
use Rattle.ov_types.specs.declared.packet.RuleNo.{RuleNo}
use Rattle.ov_types.specs.declared.packet.Why.{Why}
use Rattle.ov_types.specs.declared.packet.Why.TheVariants as Reason
use Rattle.config_types.specs.Form.{has_config_form}
use Rattle.config_types.specs.declared.config.Config.{Config}
use Rattle.inspect_rules.specs.CauseLines.{condition_text, reading_text}
use Rattle.inspect_rules.specs.declared.cause.Cause.{Cause}
use Rattle.inspect_rules.specs.declared.cause.Cause.TheVariants as Of
use Rattle.inspect_rules.specs.declared.cause.Condition.{Condition}
use Rattle.inspect_rules.specs.declared.cause.Condition.TheVariants.{Protocol, SourcePorts, DestinationPorts, Direction}
use Rattle.inspect_json.specs.Form.{IsReadBack}
use Rattle.inspect_json.specs.OutcomeValues.{delivered_value, denier_value, dropped_value, outcome_value, port_number_value, why_rule, why_word}
use Rattle.inspect_json.specs.ReasonValues.{attached_value, cause_value, decided_value, explained_value, mirrored_value, near_value, placed_value, skipped_value}
use Rattle.inspect_walks.specs.Lines.{step_text}
use Rattle.inspect_walks.specs.Sizes.{has_name_size, has_step_size}
use Rattle.inspect_walks.specs.declared.told_step.ToldStep.{ToldStep}
use Rattle.inspect_json.specs.Sizes.{has_cause_size, has_outcome_size, has_rule_size}
use Rattle.inspect_json.specs.Values.{list_value, name_value, rule_value, service_value}
use Rattle.inspect_json.proofs.Fit.{IsFit, is_read_back}
use Rattle.inspect_json.proofs.ReadBack.{lists, outcome, small, word}
use Rattle.inspect_json.specs.WalkValues.{step_value}
use Rattle.inspect_json.proofs.SameSaid.{after, body, first, items, letter, size, text, whole}
use Rattle.inspect_json.proofs.WalksBack.{name_fits, step, step_back, step_in}

-- the text reads as the value

placed : (k : ℕ) (r : RuleNo) (policy : Option (List ℕ)) → (has_rule_size r && has_name_size policy) ≡ true → IsFit (suc k) (placed_value r policy)
unfolding placed_value
placed k r policy h =
    let a = and_parts (has_rule_size r) (has_name_size policy) h in
    let p = and_parts (nat_le r.sequence 65535) (nat_le r.position 65535) a.0 in (
      (
        word (codes "policy") refl,
        name_fits k policy a.1,
        (word (codes "position") refl, small r.position p.1, (word (codes "sequence") refl, small r.sequence p.0, tt)),
      ),
      refl,
    )

conditions : (k : ℕ) (x : Condition) → IsFit k (string (condition_text x))
conditions k Protocol = word (codes "protocol") refl
conditions k SourcePorts = word (codes "source-ports") refl
conditions k DestinationPorts = word (codes "destination-ports") refl
conditions k Direction = word (codes "direction") refl

mirrored_fits : (k : ℕ) (m : Option Condition) → IsFit k (mirrored_value m)
mirrored_fits k None = tt
mirrored_fits k (Some x) = conditions k x

readings : (k : ℕ) (mirrored : Bool) → IsFit k (string (reading_text mirrored))
readings k true = word (codes "mirrored") refl
readings k false = word (codes "forwards") refl

near : (k : ℕ) (kind network : List ℕ) → IsFit k (string kind) → is_name network ≡ true → IsFit (suc k) (near_value kind network)
unfolding near_value
near k kind network fit h = ((word (codes "kind") refl, fit, (word (codes "network") refl, name_is_utf8 network h, tt)), refl)

cause : (k : ℕ) (x : Cause) → has_cause_size x ≡ true → IsFit (suc (suc k)) (cause_value x)
unfolding skipped_value decided_value attached_value
cause k (Of.From network) h = near (suc k) (codes "from") network (word (codes "from") refl) h
cause k (Of.To network) h = near (suc k) (codes "to") network (word (codes "to") refl) h
cause k (Of.Skipped r policy forwards mirrored) h = (
  (
    word (codes "forwards") refl,
    conditions (suc k) forwards,
    (
      word (codes "kind") refl,
      word (codes "skipped") refl,
      (
        word (codes "mirrored") refl,
        mirrored_fits (suc k) mirrored,
        (word (codes "rule") refl, placed k r policy h, tt),
      ),
    ),
  ),
  refl,
)
cause k (Of.Decided r policy mirrored) h = (
  (
    word (codes "kind") refl,
    word (codes "decided") refl,
    (
      word (codes "reading") refl,
      readings (suc k) mirrored,
      (word (codes "rule") refl, placed k r policy h, tt),
    ),
  ),
  refl,
)
cause k (Of.Attached network policy) h =
    let p = and_parts (is_name network) (is_name policy) h in (
      (
        word (codes "kind") refl,
        word (codes "attached") refl,
        (
          word (codes "network") refl,
          name_is_utf8 network p.0,
          (word (codes "policy") refl, name_is_utf8 policy p.1, tt),
        ),
      ),
      refl,
    )
cause k (Of.Unrelated network) h = near (suc k) (codes "unrelated") network (word (codes "unrelated") refl) h

pub explained_reads : (c : Config) (n : ℕ) (o : Outcome) (xs : List Cause) (walk : List ToldStep) → IsTrue (has_config_form c) → n < 2 ^ 64
    → IsTrue (has_outcome_size o) → IsTrue (list_all has_cause_size xs) → IsTrue (list_all has_step_size walk) → IsReadBack (explained_value c n o xs walk)
unfolding explained_value
explained_reads c n o xs walk form few h each steps =
    is_read_back 4 (explained_value c n o xs walk) (
      (
        word (codes "causes") refl,
        lists 2 cause_value has_cause_size (cause 0) xs each,
        (
          word (codes "outcome") refl,
          outcome c o form h,
          (
            word (codes "packet") refl,
            few,
            (word (codes "walk") refl, lists 2 step_value has_step_size (step 0) walk steps, tt),
          ),
        ),
      ),
      refl,
    ) (omega arith)

-- what a value says

abbrev rule_in : Data → RuleNo
rule_in d = record { sequence = whole (first (after (after (body d)))); position = whole (first (after (body d))) }

abbrev policy_in : Data → Option (List ℕ)
policy_in (string s) = Some s
policy_in d = None

abbrev condition_in : List ℕ → Condition
condition_in s =
    cond (length s == 8) Protocol (cond (length s == 12) SourcePorts (cond (length s == 9) Direction DestinationPorts))

condition_back : (x : Condition) → condition_in (condition_text x) ≡ x
condition_back Protocol = refl
condition_back SourcePorts = refl
condition_back DestinationPorts = refl
condition_back Direction = refl

abbrev mirrored_in : Data → Option Condition
mirrored_in (string s) = Some (condition_in s)
mirrored_in d = None

mirrored_back : (m : Option Condition) → mirrored_in (mirrored_value m) ≡ m
mirrored_back None = refl
mirrored_back (Some x) = ap (λ (y : Condition). Some y) (condition_back x)

policy_back : (policy : Option (List ℕ)) → policy_in (name_value policy) ≡ policy
policy_back None = refl
policy_back (Some name) = refl

abbrev reading_in : List ℕ → Bool
reading_in s = letter s == 109

reading_back : (mirrored : Bool) → reading_in (reading_text mirrored) ≡ mirrored
reading_back true = refl
reading_back false = refl

-- by the first letter of the kind
abbrev near_in : ℕ → List ℕ → Cause
near_in kind network = cond (kind == 102) (Of.From network) (cond (kind == 116) (Of.To network) (Of.Unrelated network))

-- a value with three members
abbrev three_in : ℕ → Members → Cause
three_in kind ms = cond (kind == 97) (Of.Attached (text (first (after ms))) (text (first (after (after ms)))))
    (Of.Decided (rule_in (first (after (after ms)))) (policy_in (first (body (first (after (after ms)))))) (reading_in (text (first (after ms)))))

abbrev skipped_in : Members → Cause
skipped_in ms = Of.Skipped (rule_in (first (after (after (after ms))))) (policy_in (first (body (first (after (after (after ms)))))))
    (condition_in (text (first ms))) (mirrored_in (first (after (after ms))))

abbrev cause_in : Data → Cause
cause_in d = cond (size (body d) == 4) (skipped_in (body d)) (cond (size (body d) == 3) (three_in (letter (text (first (body d)))) (body d))
    (near_in (letter (text (first (body d)))) (text (first (after (body d))))))

cause_back : (x : Cause) → cause_in (cause_value x) ≡ x
unfolding near_value skipped_value decided_value attached_value placed_value
cause_back (Of.From network) = refl
cause_back (Of.To network) = refl
cause_back (Of.Skipped r policy forwards mirrored) =
    λ i. Of.Skipped r (policy_back policy i) (condition_back forwards i) (mirrored_back mirrored i)
cause_back (Of.Decided r policy mirrored) = λ i. Of.Decided r (policy_back policy i) (reading_back mirrored i)
cause_back (Of.Attached network policy) = refl
cause_back (Of.Unrelated network) = refl

abbrev pub list_in : {A : Type 0} → (Data → A) → Items → List A
list_in f no_items = []
list_in f (item d ds) = f d ∷ list_in f ds

pub list_back : {A : Type 0} (f : Data → A) (value : A → Data) → ((x : A) → f (value x) ≡ x) → (xs : List A) → list_in f (items_of (map value xs)) ≡ xs
list_back f value each [] = refl
list_back f value each (x ∷ xs) = λ i. each x i ∷ list_back f value each xs i

abbrev pub service_in : Data → ServiceNo
service_in d = record { 0 = whole (first (body d)) }

pub service_back : (c : Config) (s : ServiceNo) → service_in (service_value c s) ≡ s
unfolding service_value
service_back c s = refl

abbrev denier_in : Data → Option RuleNo
denier_in (object ms) = Some (rule_in (object ms))
denier_in d = None

denier_back : (c : Config) (o : Option RuleNo) → denier_in (denier_value c o) ≡ o
unfolding rule_value
denier_back c None = refl
denier_back c (Some r) = refl

-- the fourth letter of a word tells the reasons apart
abbrev pub fourth : List ℕ → ℕ
fourth (a ∷ b ∷ c ∷ d ∷ s) = d
fourth s = 0

abbrev why_in : ℕ → Data → Why
why_in n rule = cond (n == 115) Reason.NoSourcePort (cond (n == 100) Reason.NoDestination (cond (n == 114) Reason.NoRoute
    (cond (n == 108) Reason.NoLabel (cond (n == 45) Reason.TtlExpired (Reason.Denied (denier_in rule))))))

why_back : (c : Config) (w : Why) → why_in (fourth (why_word w)) (why_rule c w) ≡ w
why_back c Reason.NoSourcePort = refl
why_back c Reason.NoDestination = refl
why_back c Reason.NoRoute = refl
why_back c (Reason.Denied o) = ap (λ (p : Option RuleNo). Reason.Denied p) (denier_back c o)
why_back c Reason.NoLabel = refl
why_back c Reason.TtlExpired = refl

abbrev pub port_in : Data → PortNo
port_in d = record { 0 = whole (first (body d)) }

abbrev outcome_in : Data → Outcome
outcome_in d = cond (length (text (first (body d))) == 9)
    (Comes.Delivered (port_in (first (after (body d)))) (list_in service_in (items (first (after (after (body d)))))))
    (Comes.Dropped (why_in (fourth (text (first (after (after (body d)))))) (first (after (body d)))))

pub outcome_back : (c : Config) (o : Outcome) → outcome_in (outcome_value c o) ≡ o
unfolding delivered_value dropped_value port_number_value
outcome_back c (Comes.Delivered port services) = ap (λ (xs : List ServiceNo). Comes.Delivered port xs) (list_back service_in (service_value c) (service_back c) services)
outcome_back c (Comes.Dropped why) = ap (λ (w : Why). Comes.Dropped w) (why_back c why)

pub outcome_says : (c d : Config) (o p : Outcome) → outcome_value c o ≡ outcome_value d p → o ≡ p
outcome_says c d o p h = sym (outcome_back c o) ∙ ap outcome_in h ∙ outcome_back d p

texts_back : (walk : List ToldStep) → list_in step_in (items_of (map step_value walk)) ≡ map step_text walk
texts_back [] = refl
texts_back (s ∷ ss) = λ i. step_back s i ∷ texts_back ss i

pub explained_says : (c d : Config) (n m : ℕ) (o p : Outcome) (xs ys : List Cause) (walk other : List ToldStep)
    → explained_value c n o xs walk ≡ explained_value d m p ys other → (n ≡ m) × (o ≡ p) × (xs ≡ ys) × (map step_text walk ≡ map step_text other)
unfolding explained_value
explained_says c d n m o p xs ys walk other h = (
  ap (λ (d : Data). whole (first (after (after (body d))))) h,
  outcome_says c d o p (ap (λ (d : Data). first (after (body d))) h),
  sym (list_back cause_in cause_value cause_back xs) ∙ ap (λ (d : Data). list_in cause_in (items (first (body d)))) h ∙ list_back cause_in cause_value cause_back ys,
  sym (texts_back walk) ∙ ap (λ (d : Data). list_in step_in (items (first (after (after (after (body d))))))) h ∙ texts_back other,
)
