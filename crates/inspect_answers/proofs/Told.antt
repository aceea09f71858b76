-- The text of the answer is that of lines, and these tell of each tuple what decides on it.
use Rattle.std.proofs.Common.{◌≡◌, ◌≢◌, ◌&&◌, not, ℕ, Bool, true, false, cond, List, [], ◌∷◌, ◌++◌, Option, Some, None, Result, arith, Ok, Err, map, flat_map, refl, sym, ap, ◌∙◌, subst}
use Rattle.std.specs.Prelude.{IfOk}
use Rattle.std.specs.List.{Contains}
use Rattle.std.specs.Io.KnownBytes.{Appends}
use Rattle.std.proofs.lemmas.Grind.{flat_map-append}
use Rattle.std.proofs.lemmas.List.Folds.{flat_map-map}
use Rattle.ov_types.specs.First.{same_name}
use Rattle.ov_types.specs.declared.packet.Tuple.{Tuple}
use Rattle.ov_types.proofs.FirstLemmas.{same_name_iff}
use Rattle.ov_types.specs.Name.{is_name}
use Rattle.config_types.specs.Form.{has_config_form}
use Rattle.config_types.specs.declared.config.Config.{Config}
use Rattle.config_types.specs.declared.config.Network.{Network}
use Rattle.config_types.specs.declared.topology.Topology.{Topology}
use Rattle.config_model.specs.Input.{compile_at}
use Rattle.config_check.specs.Rules.{first_broken}
use Rattle.config_check.specs.declared.refusal.Refusal.{Refusal}
use Rattle.compile_answers.specs.Answers.{answer_checked, answer_good, compile_taken}
use Rattle.policy_rules.specs.declared.matching.Decision.{Decision}
use Rattle.policy_rules.proofs.Lists.{joined_is, is_joined, is_mapped, mapped_is}
use Rattle.policy_regions.specs.Parts.{IsTuple}
use Rattle.inspect_answers.specs.Answers.{Answer, IsAnswer, WasGiven, judged, missing_of, valid_answer, ways_answer}
use Rattle.inspect_changes.specs.Lines.{is_asked}
use Rattle.inspect_answers.specs.Promise.{IsAskedFor, IsLetBetween, Line, Tells, TookWays, line_in, line_value, lines_of, network_lines, pair_lines}
use Rattle.inspect_answers.specs.InForm.{AreWrittenInForm}
use Rattle.inspect_answers.proofs.Answered.{IsRead, is_read}
use Rattle.inspect_answers.proofs.Formed.{in_form}
use Rattle.inspect_answers.specs.Runs.{status_of}
use Rattle.inspect_changes.specs.Ways.{IsLetThrough, ways_between}
use Rattle.inspect_changes.specs.declared.pairs.Pairs.{Pairs}
use Rattle.inspect_changes.specs.declared.pairs.Pairs.TheVariants.{All, Between}
use Rattle.inspect_answers.specs.declared.top.Status.TheVariants as Ended
use Rattle.inspect_answers.specs.declared.verdict.Verdict.{Verdict}
use Rattle.inspect_answers.specs.declared.verdict.Verdict.TheVariants.{Good}
use Rattle.inspect_changes.specs.declared.way.Passage.{Passage}
use Rattle.inspect_changes.specs.declared.way.Way.{Way}
use Rattle.inspect_changes.proofs.Exact.{let_through, on_one, on_one_at_most}
use Rattle.inspect_json.specs.Form.{IsReadBack}
use Rattle.inspect_json.specs.WayLines.{network_in, pair_in, way_in, ways_in}
use Rattle.inspect_json.proofs.ReadBack.{way_reads}
use Rattle.inspect_json.specs.declared.form.Form.{Form}
use Rattle.inspect_answers.proofs.LineSizes.{network_form, way_sized}

-- the text

joined_texts : {A B C : Type 0} (f : B → List C) (g : A → List B) (h : A → List C) → ((x : A) → h x ≡ flat_map f (g x)) → (xs : List A)
    → flat_map h xs ≡ flat_map f (flat_map g xs)
joined_texts f g h each [] = refl
joined_texts f g h each (x ∷ xs) =
    (λ i. each x i ++ joined_texts f g h each xs i) ∙ sym (flat_map-append f (g x) (flat_map g xs))

text_of_pair : (form : Form) (pairs : Pairs) (c : Config) (a b : Network) → pair_in form pairs c a b ≡ flat_map (line_in form c) (pair_lines pairs c a b)
text_of_pair form pairs c a b =
    elim (is_asked pairs a b) as (λ q. cond q (flat_map (way_in form c a.name b.name) (ways_between c a b)) []
    ≡ flat_map (line_in form c) (cond q (map (λ (w : Way). record { from = a; to = b; way = w }) (ways_between c a b)) [])) [
      | true ↦ sym (flat_map-map (line_in form c) (λ (w : Way). record { from = a; to = b; way = w }) (ways_between c a b))
      | false ↦ refl
    ]

pub text_of_lines : (form : Form) (pairs : Pairs) (c : Config) → ways_in form pairs c ≡ flat_map (line_in form c) (lines_of pairs c)
unfolding ways_in
text_of_lines form pairs c =
    joined_texts (line_in form c) (network_lines pairs c) (network_in form pairs c)
    (λ a. joined_texts (line_in form c) (pair_lines pairs c a) (pair_in form pairs c a) (text_of_pair form pairs c a) c.networks) c.networks

-- what is asked for

same_is : (a b : List ℕ) (q : Bool) → same_name a b ≡ q → not q ≡ true → a ≢ b
same_is a b true e h = λ same. cc
same_is a b false e h = λ same. let two : true ≡ false = sym ((same_name_iff a b).1 same) ∙ e in cc

other_is : (a b : List ℕ) (q : Bool) → same_name a b ≡ q → a ≢ b → not q ≡ true
other_is a b true e h = absurd (h ((same_name_iff a b).0 e))
other_is a b false e h = refl

both : (p q : Bool) → (p && q) ≡ true → (p ≡ true) × (q ≡ true)
both true true h = (refl, refl)
both true false h = cc
both false q h = cc

asked_is : (pairs : Pairs) (a b : Network) → is_asked pairs a b ≡ true → IsAskedFor pairs a b
asked_is All a b h = same_is a.name b.name (same_name a.name b.name) refl h
asked_is (Between from to) a b h =
    let parts = both (same_name a.name from) (same_name b.name to) h in
    ((same_name_iff a.name from).0 parts.0, (same_name_iff b.name to).0 parts.1)

is_asked_for : (pairs : Pairs) (a b : Network) → IsAskedFor pairs a b → is_asked pairs a b ≡ true
is_asked_for All a b h = other_is a.name b.name (same_name a.name b.name) refl h
is_asked_for (Between from to) a b h =
    let first : same_name a.name from ≡ true = (same_name_iff a.name from).1 h.0 in
    let second : same_name b.name to ≡ true = (same_name_iff b.name to).1 h.1 in
    rw (first, second) refl

-- lines

abbrev way_line_of : Network → Network → Way → List Line
way_line_of a b w = record { from = a; to = b; way = w } ∷ []

-- a line of a list of those of two networks is of these, and of one of their ways
pub record IsOfPair (c : Config) (a b : Network) (line : Line) : Type 0 where
  pub from : line.from ≡ a
  pub to : line.to ≡ b
  pub way : Contains (ways_between c a b) line.way

pair_is : (pairs : Pairs) (c : Config) (a b : Network) (line : Line) → Contains (pair_lines pairs c a b) line
    → (is_asked pairs a b ≡ true) × IsOfPair c a b line
pair_is pairs c a b line =
    elim (is_asked pairs a b) as (λ q. is_asked pairs a b ≡ q
    → Contains (cond q (map (λ (w : Way). record { from = a; to = b; way = w }) (ways_between c a b)) []) line
    → (is_asked pairs a b ≡ true) × IsOfPair c a b line) [
      | true ↦ λ e at.
          let found = mapped_is (λ (w : Way). record { from = a; to = b; way = w }) (ways_between c a b) line at in (
            e,
            record {
              from = sym (ap (λ (l : Line). l.from) found.2);
              to = sym (ap (λ (l : Line). l.to) found.2);
              way = subst (λ (w : Way). Contains (ways_between c a b) w) (ap (λ (l : Line). l.way) found.2) found.1;
            },
          )
      | false ↦ λ e at. absurd (let lt = at.1 in omega arith)
    ] refl

pub told : (pairs : Pairs) (c : Config) (a b : Network) (t : Tuple) (d : Decision) (passage : Passage) → IsTuple t
    → Tells (lines_of pairs c) a b t d passage → IsLetBetween pairs c a b t d passage
told pairs c a b t d passage h tells =
    let first = joined_is (network_lines pairs c) c.networks tells.line tells.stands in
    let second = joined_is (pair_lines pairs c first.0) c.networks tells.line first.2 in
    let pair = pair_is pairs c first.0 second.0 tells.line second.2 in
    let lets : IsLetThrough c first.0 second.0 t d passage =
    let_through c first.0 second.0 t d passage h
    (record { way = tells.line.way; stands = pair.1.way; on = tells.on; decided = tells.decided; goes = tells.goes }) in
    let between : IsLetBetween pairs c first.0 second.0 t d passage =
    record { from_stands = first.1; to_stands = second.1; asked_for = asked_is pairs first.0 second.0 pair.0; let_through = lets } in
    subst (λ (a : Network). IsLetBetween pairs c a b t d passage) (sym pair.1.from ∙ tells.from)
    (subst (λ (b : Network). IsLetBetween pairs c first.0 b t d passage) (sym pair.1.to ∙ tells.to) between)

pub is_told : (pairs : Pairs) (c : Config) (a b : Network) (t : Tuple) (d : Decision) (passage : Passage) → IsTuple t
    → IsLetBetween pairs c a b t d passage → Tells (lines_of pairs c) a b t d passage
is_told pairs c a b t d passage h between =
    let found = on_one c a b t d passage h between.let_through in
    let line : Line = record { from = a; to = b; way = found.way } in
    let mapped = is_mapped (λ (w : Way). record { from = a; to = b; way = w }) (ways_between c a b) found.way found.stands in
    let here : Contains (pair_lines pairs c a b) line =
    subst (λ (q : Bool). Contains (cond q (map (λ (w : Way). record { from = a; to = b; way = w }) (ways_between c a b)) []) line)
    (sym (is_asked_for pairs a b between.asked_for)) mapped in
    let there = is_joined (pair_lines pairs c a) c.networks b line between.to_stands here in
    record {
      line = line;
      stands = is_joined (network_lines pairs c) c.networks a line between.from_stands there;
      from = refl;
      to = refl;
      on = found.on;
      decided = found.decided;
      goes = found.goes;
    }

-- what lines of JSON read as

pub line_reads : (t : Topology) (pairs : Pairs) (c : Config) → has_config_form c ≡ true → first_broken t c ≡ None → (line : Line)
    → Contains (lines_of pairs c) line → IsReadBack (line_value c line)
line_reads t pairs c form valid line at =
    let first = joined_is (network_lines pairs c) c.networks line at in
    let second = joined_is (pair_lines pairs c first.0) c.networks line first.2 in
    let pair = pair_is pairs c first.0 second.0 line second.2 in
    let from_named = (network_form c first.0 form first.1).name in
    let to_named = (network_form c second.0 form second.1).name in
    way_reads c line.from.name line.to.name line.way form (subst (λ (n : Network). is_name n.name ≡ true) (sym pair.1.from) from_named)
    (subst (λ (n : Network). is_name n.name ≡ true) (sym pair.1.to) to_named) (way_sized t c first.0 second.0 line.way form valid pair.1.way)

-- the input

-- where no network is missing the ways are the text
by_missing : (missing : Option Refusal) (text : List ℕ) → IsAnswer (judged (answer_checked missing text)).verdict
    → judged (answer_checked missing text) ≡ judged (answer_good text)
by_missing (Some r) text h = absurd h
by_missing None text h = refl

is_good : (form : Form) (pairs : Pairs) (octets : List ℕ) → IsAnswer (ways_answer form pairs octets).verdict
    → IsRead (compile_at []) (λ p. p) (λ p. valid_answer form pairs p.config) octets (ways_answer form pairs octets)
unfolding ways_answer compile_taken
is_good form pairs octets h = is_read (compile_at []) (λ p. p) (λ p x. x) (λ v. valid_answer form pairs v.config) octets h

pub took_ways : (form : Form) (pairs : Pairs) (octets : List ℕ) (verdict : Verdict) (old new : Option (List ℕ)) → WasGiven (ways_answer form pairs octets) verdict old new
    → (IsAnswer verdict → AreWrittenInForm octets) → IsAnswer verdict → (status_of verdict ≡ Ended.Done) × TookWays form pairs octets old new
took_ways form pairs octets verdict old new given of_form answers =
    let good = is_good form pairs octets (subst IsAnswer given.is answers) in
    let c = good.asked.config in
    let is : ways_answer form pairs octets ≡ judged (answer_good (ways_in form pairs c)) =
    good.is ∙ by_missing (missing_of pairs c) (ways_in form pairs c) (subst IsAnswer (given.is ∙ ap (λ (a : Answer). a.verdict) good.is) answers) in
    let formed : has_config_form c ≡ true = in_form (compile_at []) (λ p. p.config) octets good.written.0 good.asked (of_form answers) good.written.1 good.written.2 in
    let same : (ways_answer form pairs octets).text ≡ flat_map (line_in form c) (lines_of pairs c) =
    ap (λ (a : Answer). a.text) is ∙ text_of_lines form pairs c in
    let verdict_is : verdict ≡ Good = given.is ∙ ap (λ (a : Answer). a.verdict) is in (
      ap status_of verdict_is,
      record {
        input = good.asked;
        written = good.written;
        valid = good.valid;
        lines = lines_of pairs c;
        taken = subst (λ (t : List ℕ). Appends old new t) same given.taken;
        exact = λ a b t d passage h. (told pairs c a b t d passage h, is_told pairs c a b t d passage h);
        apart = on_one_at_most c;
        reads = line_reads good.asked.topology pairs c formed good.valid;
      },
    )

pub ways_kept : {E : Type 0} (r : Result Verdict E) (form : Form) (pairs : Pairs) (octets : List ℕ) (old new : Option (List ℕ))
    → IfOk r (λ verdict. WasGiven (ways_answer form pairs octets) verdict old new) → IfOk r (λ verdict. IsAnswer verdict → AreWrittenInForm octets)
    → IfOk r (λ verdict. IsAnswer verdict → (status_of verdict ≡ Ended.Done) × TookWays form pairs octets old new)
ways_kept (Ok verdict) form pairs octets old new given of_form = took_ways form pairs octets verdict old new given of_form
ways_kept (Err e) form pairs octets old new given of_form = tt
