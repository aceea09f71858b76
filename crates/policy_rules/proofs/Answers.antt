-- A packet and its answer.
use Rattle.std.proofs.Common.{◌≡◌, ◌&&◌, ◌||◌, Bool, true, false, not, cond, List, [], ◌∷◌, Option, Some, None, option_map, flat_map, filter, refl, sym, ap, ◌∙◌, subst}
use Rattle.std.specs.List.{All}
use Rattle.std.specs.Cmp.Lexicographic.{same_text}
use Rattle.ov_types.specs.declared.packet.Tuple.{Tuple}
use Rattle.config_types.specs.declared.config.Config.{Config}
use Rattle.config_types.specs.declared.config.Direction.{Direction}
use Rattle.config_types.specs.declared.config.Direction.TheVariants.{BothWays}
use Rattle.config_types.specs.declared.config.End.{End}
use Rattle.config_types.specs.declared.config.End.TheVariants.{Named}
use Rattle.config_types.specs.declared.config.Network.{Network}
use Rattle.config_types.specs.declared.config.Policy.{Policy}
use Rattle.config_types.specs.declared.config.Rule.{Rule}
use Rattle.ov_types.specs.First.{◌<|>◌, first_of}
use Rattle.policy_rules.specs.declared.numbered.NumberedRule.{NumberedRule}
use Rattle.policy_rules.specs.Related.{numbered_rules, attaches, by_sequence, end_fits, fits, rules_between}
use Rattle.ov_types.proofs.FirstLemmas.{all_head, all_tail}
use Rattle.ov_types.specs.Access.{in_range}
use Rattle.policy_rules.specs.Matching.{Match, has_protocol, speaks_both_ways, matches_forwards, match_by, deciding, decision_by, decision}
use Rattle.policy_rules.specs.Answering.{answering, SpeakBothWays, NamesTwoEnds, rule_of}

-- either network first

and_swap : (a b : Bool) → (a && b) ≡ (b && a)
and_swap true true = refl
and_swap true false = refl
and_swap false true = refl
and_swap false false = refl

or_swap : (a b : Bool) → (a || b) ≡ (b || a)
or_swap true true = refl
or_swap true false = refl
or_swap false true = refl
or_swap false false = refl

filter_same : {A : Type 0} (p q : A → Bool) → ((x : A) → p x ≡ q x) → (xs : List A) → filter p xs ≡ filter q xs
filter_same p q same [] = refl
filter_same {A} p q same (x ∷ xs) =
    ap (λ (b : Bool). cond b (x ∷ filter p xs) (filter p xs)) (same x)
    ∙ ap (λ (rest : List A). cond (q x) (x ∷ rest) rest) (filter_same p q same xs)

pub symmetric : (c : Config) (a b : Network) → rules_between c a b ≡ rules_between c b a
symmetric c a b =
    let shared : List Policy → List NumberedRule = λ (ps : List Policy). flat_map numbered_rules (by_sequence ps) in
    ap (λ (ps : List Policy). filter (λ (r : NumberedRule). fits r.rule a b || fits r.rule b a) (shared ps))
    (filter_same (λ p. attaches a p && attaches b p) (λ p. attaches b p && attaches a p) (λ p. and_swap (attaches a p) (attaches b p)) c.policies)
    ∙ filter_same (λ (r : NumberedRule). fits r.rule a b || fits r.rule b a) (λ r. fits r.rule b a || fits r.rule a b) (λ r. or_swap (fits r.rule a b) (fits r.rule b a))
    (shared (filter (λ p. attaches b p && attaches a p) c.policies))

-- a rule that names two networks fits a pair one way only

left : (a b : Bool) → (a && b) ≡ true → a ≡ true
left true b h = refl
left false b h = cc

right : (a b : Bool) → (a && b) ≡ true → b ≡ true
right true b h = h
right false b h = cc

fits_one_way : (r : Rule) (a b : Network) → fits r a b ≡ true → fits r b a ≡ true → NamesTwoEnds r → ⊥
fits_one_way r a b there back (x, y, source, destination, apart) =
    let from : end_fits (Named x) a ≡ true = ap (λ (e : End). end_fits e a) (sym source) ∙ left (end_fits r.source a) (end_fits r.destination b) there in
    let to : end_fits (Named y) a ≡ true = ap (λ (e : End). end_fits e a) (sym destination) ∙ right (end_fits r.source b) (end_fits r.destination a) back in
    apart (same_text x a.name (sym from) ∙ sym (same_text y a.name (sym to)))

-- one match answers another: by the same rule, and one that names two networks in opposite directions
abbrev AnswersAs : Option Match → Option Match → Type 0
AnswersAs None None = Unit {0}
AnswersAs None (Some n) = ⊥
AnswersAs (Some m) None = ⊥
AnswersAs (Some m) (Some n) = (n.rule ≡ m.rule) × (NamesTwoEnds m.rule.rule → n.mirrored ≡ not m.mirrored)

both_or : (o p x y : Option Match) → AnswersAs o p → AnswersAs x y → AnswersAs (o <|> x) (p <|> y)
both_or None None x y h k = k
both_or None (Some n) x y h k = absurd h
both_or (Some m) None x y h k = absurd h
both_or (Some m) (Some n) x y h k = h

-- a rule tried by two tests, in either order
tried : NumberedRule → Bool → Bool → Option Match
tried r first second = cond first (Some (record { rule = r; mirrored = false })) (cond second (Some (record { rule = r; mirrored = true })) None)

answered : (r : NumberedRule) (u v : Bool) → (u ≡ true → v ≡ true → NamesTwoEnds r.rule → ⊥) → AnswersAs (tried r u v) (tried r v u)
unfolding tried
answered r true true one = (refl, λ two. absurd (one refl refl two))
answered r true false one = (refl, λ two. refl)
answered r false true one = (refl, λ two. refl)
answered r false false one = tt

match_is : (a b : Network) (t : Tuple) (r : NumberedRule) → r.rule.direction ≡ BothWays → match_by a b t r ≡ tried r (matches_forwards a b t r.rule) (matches_forwards b a (answering t) r.rule)
unfolding tried
match_is a b t r both =
    ap (λ (d : Direction). cond (matches_forwards a b t r.rule) (Some (record { rule = r; mirrored = false }))
    (cond ((((speaks_both_ways d && fits r.rule b a) && has_protocol r.rule.protocol t.proto) && in_range r.rule.source_ports t.dport) && in_range r.rule.destination_ports t.sport) (Some (record { rule = r; mirrored = true })) None)) both

fits_where : (a b : Network) (t : Tuple) (r : Rule) → matches_forwards a b t r ≡ true → fits r a b ≡ true
fits_where a b t r h =
    left (fits r a b) _ (left (fits r a b && has_protocol r.protocol t.proto) _ (left ((fits r a b && has_protocol r.protocol t.proto) && in_range r.source_ports t.sport) _ h))

rule_answered : (a b : Network) (t : Tuple) (r : NumberedRule) → r.rule.direction ≡ BothWays → AnswersAs (match_by a b t r) (match_by b a (answering t) r)
rule_answered a b t r both =
    let u : Bool = matches_forwards a b t r.rule in
    let v : Bool = matches_forwards b a (answering t) r.rule in
    let there : match_by a b t r ≡ tried r u v = match_is a b t r both in
    let back : match_by b a (answering t) r ≡ tried r v u = match_is b a (answering t) r both in
    let one : u ≡ true → v ≡ true → NamesTwoEnds r.rule → ⊥ = λ e f two. fits_one_way r.rule a b (fits_where a b t r.rule e) (fits_where b a (answering t) r.rule f) two in
    let P : Option Match → Type 0 = λ o. AnswersAs o (match_by b a (answering t) r) in
    let Q : Option Match → Type 0 = λ o. AnswersAs (tried r u v) o in
    subst P (sym there) (subst Q (sym back) (answered r u v one))

rules_answered : (a b : Network) (t : Tuple) (rs : List NumberedRule) → All (λ r. r.rule.direction ≡ BothWays) rs
    → AnswersAs (first_of (match_by a b t) rs) (first_of (match_by b a (answering t)) rs)
rules_answered a b t [] each = tt
rules_answered a b t (r ∷ rs) each =
    both_or (match_by a b t r) (match_by b a (answering t) r) (first_of (match_by a b t) rs) (first_of (match_by b a (answering t)) rs)
    (rule_answered a b t r (all_head (λ (x : NumberedRule). x.rule.direction ≡ BothWays) r rs each))
    (rules_answered a b t rs (all_tail (λ (x : NumberedRule). x.rule.direction ≡ BothWays) r rs each))

deciding_answered : (c : Config) (a b : Network) (t : Tuple) → SpeakBothWays c a b → AnswersAs (deciding c a b t) (deciding c b a (answering t))
unfolding deciding
deciding_answered c a b t each =
    let P : List NumberedRule → Type 0 = λ rs. AnswersAs (first_of (match_by a b t) (rules_between c a b)) (first_of (match_by b a (answering t)) rs) in
    subst P (symmetric c a b) (rules_answered a b t (rules_between c a b) each)

same_rule : (o p : Option Match) → AnswersAs o p → rule_of (option_map decision_by p) ≡ rule_of (option_map decision_by o)
same_rule None None h = refl
same_rule None (Some n) h = absurd h
same_rule (Some m) None h = absurd h
same_rule (Some m) (Some n) h = ap (λ (r : NumberedRule). Some r.number) h.0

pub decided_alike : (c : Config) (a b : Network) (t : Tuple) → SpeakBothWays c a b → rule_of (decision c b a (answering t)) ≡ rule_of (decision c a b t)
decided_alike c a b t each = same_rule (deciding c a b t) (deciding c b a (answering t)) (deciding_answered c a b t each)

other_way : (o p : Option Match) (m n : Match) → AnswersAs o p → o ≡ Some m → p ≡ Some n → NamesTwoEnds m.rule.rule → n.mirrored ≡ not m.mirrored
other_way None p m n h e f two = cc
other_way (Some x) None m n h e f two = cc
other_way (Some x) (Some y) m n h e f two =
    let here : x ≡ m = cc in
    let there : y ≡ n = cc in
    let P : Match → Type 0 = λ k. NamesTwoEnds k.rule.rule → n.mirrored ≡ not k.mirrored in
    let Q : Match → Type 0 = λ k. NamesTwoEnds x.rule.rule → k.mirrored ≡ not x.mirrored in
    subst P here (subst Q there h.1) two

pub opposite : (c : Config) (a b : Network) (t : Tuple) (m n : Match) → SpeakBothWays c a b → deciding c a b t ≡ Some m → deciding c b a (answering t) ≡ Some n
    → NamesTwoEnds m.rule.rule → n.mirrored ≡ not m.mirrored
opposite c a b t m n each e f two = other_way (deciding c a b t) (deciding c b a (answering t)) m n (deciding_answered c a b t each) e f two
