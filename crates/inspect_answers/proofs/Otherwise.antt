-- The lines of `expect` are of the packets whose outcome is otherwise than expected.
use Rattle.std.proofs.Common.{◌≡◌, ◌<◌, ◌≤◌, ◌↔◌, ◌+◌, ℕ, zero, suc, Bool, true, false, cond, not, List, [], ◌∷◌, ◌++◌, Some}
use Rattle.std.proofs.Common.{refl, sym, ap, ◌∙◌, subst, arith, inl, inr, length, flat_map}
use Rattle.std.specs.Prelude.{◌&&◌, slice_get, slice_index_or}
use Rattle.std.specs.List.{All, AllPairs, Any, Contains}
use Rattle.std.proofs.lemmas.List.Elements.{All-contains, All-contains_itself, Contains-append_cases, Contains-append_left, Contains-append_right}
use Rattle.std.proofs.lemmas.List.Kept.{AllPairs-cons}
use Rattle.std.proofs.lemmas.List.Sums.{AllPass-from_list_all, list_all-from_AllPass, sum_by-cons}
use Rattle.ov_types.proofs.FirstLemmas.{any_of, contains_cases, contains_here, contains_later}
use Rattle.config_types.specs.declared.config.Config.{Config}
use Rattle.reach_plain.specs.Reachability.{reachability}
use Rattle.inspect_answers.specs.Expectations.{Expectation}
use Rattle.inspect_answers.specs.Expecting.{all_met, comes_so, unmet_count, unmet_from, unmet_line_in}
use Rattle.inspect_json.specs.declared.form.Form.{Form}
use Rattle.inspect_answers.specs.Runs.{status_of}
use Rattle.inspect_answers.specs.Unmet.{ComesSo, IsUnmet, Unmet, line_in}
use Rattle.inspect_answers.specs.declared.top.Status.TheVariants as Ended
use Rattle.inspect_answers.specs.declared.verdict.Verdict.TheVariants as Found
use Rattle.inspect_answers.proofs.Meeting.{met_is, is_met_so}

-- lines

abbrev line_of : Config → ℕ → Expectation → Unmet
line_of c n e = record { number = n; expected = e.expected; outcome = reachability c e.packet }

abbrev lines_at : Config → ℕ → Expectation → List Unmet
lines_at c n e = cond (comes_so c e) [] (line_of c n e ∷ [])

-- the lines of packets, the first with a number
abbrev pub lines_from : Config → ℕ → List Expectation → List Unmet
lines_from c n [] = []
lines_from c n (e ∷ es) = lines_at c n e ++ lines_from c (n + 1) es

pub text_of_lines : (form : Form) (c : Config) (n : ℕ) (es : List Expectation) → unmet_from form c n es ≡ flat_map (line_in form c) (lines_from c n es)
text_of_lines form c n [] = refl
text_of_lines form c n (e ∷ es) =
    elim (comes_so c e) as (λ b. cond b [] (unmet_line_in form c n e.expected (reachability c e.packet)) ++ unmet_from form c (n + 1) es
    ≡ flat_map (line_in form c) (cond b [] (line_of c n e ∷ []) ++ lines_from c (n + 1) es)) [
      | true ↦ text_of_lines form c (n + 1) es
      | false ↦ ap (λ (t : List ℕ). unmet_line_in form c n e.expected (reachability c e.packet) ++ t) (text_of_lines form c (n + 1) es)
    ]

pub count_of_lines : (c : Config) (n : ℕ) (es : List Expectation) → unmet_count c es ≡ length (lines_from c n es)
count_of_lines c n [] = refl
count_of_lines c n (e ∷ es) =
    sum_by-cons (λ e. cond (not (comes_so c e)) 1 0) e es
    ∙ elim (comes_so c e) as (λ b. cond (not b) 1 0 + unmet_count c es ≡ length (cond b [] (line_of c n e ∷ []) ++ lines_from c (n + 1) es)) [
      | true ↦ let rest = count_of_lines c (n + 1) es in omega (arith, rest)
      | false ↦ let rest = count_of_lines c (n + 1) es in omega (arith, rest)
    ]

pub fewer : (c : Config) (n : ℕ) (es : List Expectation) → length (lines_from c n es) ≤ length es
fewer c n [] = omega arith
fewer c n (e ∷ es) =
    let rest = fewer c (n + 1) es in
    elim (comes_so c e) as (λ b. length (cond b [] (line_of c n e ∷ []) ++ lines_from c (n + 1) es) ≤ suc (length es)) [
      | true ↦ omega (arith, rest)
      | false ↦ omega (arith, rest)
    ]

-- a line is of the packet at a place, of which the first has a number
record IsAt (c : Config) (n : ℕ) (es : List Expectation) (line : Unmet) : Type 0 where
  pub place : ℕ
  pub expectation : Expectation
  pub stands : slice_get es place ≡ Some expectation
  pub number : line.number ≡ place + n
  pub expected : line.expected ≡ expectation.expected
  pub outcome : line.outcome ≡ reachability c expectation.packet
  pub otherwise : comes_so c expectation ≡ false

here_is : (c : Config) (n : ℕ) (e : Expectation) (line : Unmet) → Contains (lines_at c n e) line → (line_of c n e ≡ line) × (comes_so c e ≡ false)
here_is c n e line =
    elim (comes_so c e) as (λ b. comes_so c e ≡ b → Contains (cond b [] (line_of c n e ∷ [])) line → (line_of c n e ≡ line) × (comes_so c e ≡ false)) [
      | true ↦ λ same at. absurd (let lt = at.1 in omega arith)
      | false ↦ λ same at. elim (contains_cases (line_of c n e) [] line at) [
        | inl is ↦ (is, same)
        | inr later ↦ absurd (let lt = later.1 in omega arith)
      ]
    ] refl

line_is : (c : Config) (n : ℕ) (es : List Expectation) (line : Unmet) → Contains (lines_from c n es) line → IsAt c n es line
line_is c n [] line at = absurd (let lt = at.1 in omega arith)
line_is c n (e ∷ es) line at =
    elim (Contains-append_cases (lines_at c n e) (lines_from c (n + 1) es) line at) [
      | inl first ↦
          let here = here_is c n e line first in
          let number : n ≡ line.number = ap (λ (l : Unmet). l.number) here.0 in
          record {
            place = zero;
            expectation = e;
            stands = refl;
            number = omega (arith, number);
            expected = sym (ap (λ (l : Unmet). l.expected) here.0);
            outcome = sym (ap (λ (l : Unmet). l.outcome) here.0);
            otherwise = here.1;
          }
      | inr later ↦
          let there = line_is c (n + 1) es line later in
          record {
            place = suc there.place;
            expectation = there.expectation;
            stands = there.stands;
            number = omega (arith, there.number);
            expected = there.expected;
            outcome = there.outcome;
            otherwise = there.otherwise;
          }
    ]

some_is : {A : Type 0} (x y : A) → Some x ≡ Some y → x ≡ y
some_is x y h = cc

is_line : (c : Config) (n : ℕ) (es : List Expectation) (line : Unmet) → IsAt c n es line → Contains (lines_from c n es) line
is_line c n es line at = at_place es n at.place at.expectation at.stands at.number at.expected at.outcome at.otherwise where
  at_place : (es : List Expectation) (n place : ℕ) (e : Expectation) → slice_get es place ≡ Some e → line.number ≡ place + n
      → line.expected ≡ e.expected → line.outcome ≡ reachability c e.packet → comes_so c e ≡ false → Contains (lines_from c n es) line
  at_place [] n place e stands number expected outcome otherwise = absurd cc
  at_place (f ∷ es) n zero e stands number expected outcome otherwise =
      let same : f ≡ e = some_is f e stands in
      let first : n ≡ line.number = omega (arith, number) in
      let here : line_of c n e ≡ line = λ i. record { number = first i; expected = sym expected i; outcome = sym outcome i } in
      let inside : Contains (lines_at c n e) line =
      subst (λ (b : Bool). Contains (cond b [] (line_of c n e ∷ [])) line) (sym otherwise)
      (subst (λ (l : Unmet). Contains (line_of c n e ∷ []) l) here (contains_here (line_of c n e) [])) in
      Contains-append_left (lines_at c n f) (lines_from c (n + 1) es) line
      (subst (λ (g : Expectation). Contains (lines_at c n g) line) (sym same) inside)
  at_place (f ∷ es) n (suc k) e stands number expected outcome otherwise =
      let next : line.number ≡ k + (n + 1) = omega (arith, number) in
      Contains-append_right (lines_at c n f) (lines_from c (n + 1) es) line
      (at_place es (n + 1) k e stands next expected outcome otherwise)

-- a packet comes so where the test says so

not_so : (c : Config) (e : Expectation) → comes_so c e ≡ false → ¬ ComesSo c e
not_so c e h so = let two : true ≡ false = sym (is_met_so e.expected (reachability c e.packet) so) ∙ h in cc

so_not : (c : Config) (e : Expectation) → ¬ ComesSo c e → comes_so c e ≡ false
so_not c e h =
    elim (comes_so c e) as (λ b. comes_so c e ≡ b → b ≡ false) [
      | true ↦ λ so. absurd (h (met_is e.expected (reachability c e.packet) so))
      | false ↦ λ so. refl
    ] refl

pub exact : (c : Config) (es : List Expectation) (line : Unmet) → Contains (lines_from c 1 es) line ↔ IsUnmet c es line
exact c es line = (
  λ at.
      let is = line_is c 1 es line at in
      record {
        place = is.place;
        expectation = is.expectation;
        stands = is.stands;
        number = is.number;
        expected = is.expected;
        outcome = is.outcome;
        otherwise = not_so c is.expectation is.otherwise;
      },
  λ unmet. is_line c 1 es line (record {
    place = unmet.place;
    expectation = unmet.expectation;
    stands = unmet.stands;
    number = unmet.number;
    expected = unmet.expected;
    outcome = unmet.outcome;
    otherwise = so_not c unmet.expectation unmet.otherwise;
  }),
)

-- the numbers rise

behind : (c : Config) (n : ℕ) (es : List Expectation) (line : Unmet) → Contains (lines_from c (n + 1) es) line → n < line.number
behind c n es line at = let is = line_is c (n + 1) es line at in omega (arith, is.number)

pub in_order : (c : Config) (n : ℕ) (es : List Expectation) → AllPairs (λ l m. l.number < m.number) (lines_from c n es)
in_order c n [] = λ i j d lt within. absurd (omega arith)
in_order c n (e ∷ es) =
    elim (comes_so c e) as (λ b. AllPairs (λ l m. l.number < m.number) (cond b [] (line_of c n e ∷ []) ++ lines_from c (n + 1) es)) [
      | true ↦ in_order c (n + 1) es
      | false ↦
          AllPairs-cons (λ l m. l.number < m.number) (line_of c n e) (lines_from c (n + 1) es)
          (λ k d lt. behind c n es (slice_index_or (lines_from c (n + 1) es) k d) (All-contains_itself (lines_from c (n + 1) es) k d lt))
          (in_order c (n + 1) es)
    ]

-- the status

all_so : (c : Config) (es : List Expectation) → all_met c es ≡ true → All (ComesSo c) es
all_so c es h = λ k d lt.
    let e = slice_index_or es k d in
    met_is e.expected (reachability c e.packet) (AllPass-from_list_all (comes_so c) es h k d lt)

so_all : (c : Config) (es : List Expectation) → All (ComesSo c) es → all_met c es ≡ true
so_all c es h = list_all-from_AllPass (comes_so c) es (λ k d lt.
    let e = slice_index_or es k d in
    is_met_so e.expected (reachability c e.packet) (h k d lt))

one_not : (c : Config) (es : List Expectation) → all_met c es ≡ false → Any (λ e. ¬ ComesSo c e) es
one_not c [] = λ h. absurd cc
one_not c (e ∷ es) =
    elim (comes_so c e) as (λ b. comes_so c e ≡ b → (b && all_met c es) ≡ false → Any (λ e. ¬ ComesSo c e) (e ∷ es)) [
      | true ↦ λ so h. let later = one_not c es h in any_of (λ e. ¬ ComesSo c e) (e ∷ es) later.1 (contains_later later.1 e es (later.0, later.2, later.3)) later.4
      | false ↦ λ so h. any_of (λ e. ¬ ComesSo c e) (e ∷ es) e (contains_here e es) (not_so c e so)
    ] refl

not_all : (c : Config) (es : List Expectation) → Any (λ e. ¬ ComesSo c e) es → All (ComesSo c) es → ⊥
not_all c es any all = any.4 (All-contains (ComesSo c) es any.1 all (any.0, any.2, any.3))

pub done_where : (c : Config) (es : List Expectation) (b : Bool) → all_met c es ≡ b → (status_of (cond b Found.Good Found.Differs) ≡ Ended.Done) ↔ All (ComesSo c) es
done_where c es true e = (λ h. all_so c es e, λ h. refl)
done_where c es false e = (λ h. absurd cc, λ h. absurd (not_all c es (one_not c es e) h))

pub differs_where : (c : Config) (es : List Expectation) (b : Bool) → all_met c es ≡ b
    → (status_of (cond b Found.Good Found.Differs) ≡ Ended.Differs) ↔ Any (λ e. ¬ ComesSo c e) es
differs_where c es true e = (λ h. absurd cc, λ h. absurd (not_all c es h (all_so c es e)))
differs_where c es false e = (λ h. one_not c es e, λ h. refl)
