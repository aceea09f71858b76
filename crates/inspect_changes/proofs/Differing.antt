-- The differences between two networks are where the rules of two configurations make something else of a tuple.
use Rattle.std.proofs.Common.{◌≡◌, ◌≢◌, ◌↔◌, ◌≤◌, ◌+◌, ◌&&◌, ℕ, eqb, length, Bool, true, false, cond, IsTrue, List, [], ◌∷◌, ◌++◌, Option, Some, None, flat_map, refl, sym, ap, ◌∙◌, subst, arith}
use Rattle.std.specs.List.{Contains, count_by, list_all, zip}
use Rattle.std.proofs.lemmas.Bool.{eqb-true}
use Rattle.std.proofs.lemmas.Bool.Decides.{nat_tests}
use Rattle.std.proofs.lemmas.List.Elements.{All-contains}
use Rattle.std.proofs.lemmas.List.Sums.{sum_by-append, sum_by-cons}
use Rattle.ov_types.specs.declared.numbers.ServiceNo.{ServiceNo}
use Rattle.ov_types.specs.declared.packet.Tuple.{Tuple}
use Rattle.ov_types.proofs.FirstLemmas.{contains_here}
use Rattle.config_types.specs.declared.config.Config.{Config}
use Rattle.config_types.specs.declared.config.Network.{Network}
use Rattle.policy_rules.specs.Matching.{deciding, decision}
use Rattle.policy_rules.proofs.Lists.{joined_is, is_joined}
use Rattle.policy_regions.specs.Claims.{effect_by}
use Rattle.policy_regions.specs.Joined.{regions_between}
use Rattle.policy_regions.specs.Overlay.{IsComparedOnce, overlay}
use Rattle.policy_regions.specs.Parts.{IsTuple}
use Rattle.policy_regions.specs.Regions.{holds}
use Rattle.policy_regions.specs.declared.overlays.Compared.{Compared}
use Rattle.policy_regions.proofs.Boxes.{between_lies, between_decides, between_does}
use Rattle.policy_regions.proofs.Overlaid.{all_compare, all_turn, compared_once}
use Rattle.inspect_changes.specs.Fates.{FaresOtherwise, IsOnDifference, IsOnOneDifferenceAtMost, differences_between, differences_of, fate_between, fate_by, passage, same_passage, same_services}
use Rattle.inspect_changes.specs.declared.fate.Difference.{Difference}
use Rattle.inspect_changes.specs.declared.fate.Fate.{Fate}
use Rattle.inspect_changes.proofs.Exact.{nothing, sole, some_held}

-- the test of two passages

pub and_first : (a b : Bool) → (a && b) ≡ true → a ≡ true
and_first true b h = refl
and_first false b h = h

pub and_second : (a b : Bool) → (a && b) ≡ true → b ≡ true
and_second true b h = h
and_second false true h = refl
and_second false false h = h

each_same : (xs ys : List ServiceNo) → length xs ≡ length ys → list_all (λ p. eqb p.0.0 p.1.0) (zip xs ys) ≡ true → xs ≡ ys
each_same [] [] e h = refl
each_same [] (y ∷ ys) e h = absurd (omega (arith, e))
each_same (x ∷ xs) [] e h = absurd (omega (arith, e))
each_same (x ∷ xs) (y ∷ ys) e h =
    let first : x.0 ≡ y.0 = eqb-true x.0 y.0 (and_first (eqb x.0 y.0) (list_all (λ p. eqb p.0.0 p.1.0) (zip xs ys)) h) in
    let rest = each_same xs ys (omega (arith, e)) (and_second (eqb x.0 y.0) (list_all (λ p. eqb p.0.0 p.1.0) (zip xs ys)) h) in
    λ i. record { 0 = first i } ∷ rest i

services_are : (xs ys : List ServiceNo) → same_services xs ys ≡ true → xs ≡ ys
services_are xs ys h =
    let all : Bool = list_all (λ p. eqb p.0.0 p.1.0) (zip xs ys) in
    each_same xs ys (eqb-true (length xs) (length ys) (and_first (eqb (length xs) (length ys)) all h)) (and_second (eqb (length xs) (length ys)) all h)

pub same_number : (n : ℕ) → eqb n n ≡ true
same_number n = grind (arith, nat_tests)

pub both_true : (a b : Bool) → a ≡ true → b ≡ true → (a && b) ≡ true
both_true true b h k = k
both_true false b h k = absurd cc

each_itself : (xs : List ServiceNo) → list_all (λ p. eqb p.0.0 p.1.0) (zip xs xs) ≡ true
each_itself [] = refl
each_itself (x ∷ xs) = both_true (eqb x.0 x.0) (list_all (λ p. eqb p.0.0 p.1.0) (zip xs xs)) (same_number x.0) (each_itself xs)

services_themselves : (xs : List ServiceNo) → same_services xs xs ≡ true
services_themselves xs = both_true (eqb (length xs) (length xs)) (list_all (λ p. eqb p.0.0 p.1.0) (zip xs xs)) (same_number (length xs)) (each_itself xs)

passages_are : (o u : Option (List ServiceNo)) → same_passage o u ≡ true → o ≡ u
passages_are None None h = refl
passages_are None (Some ys) h = absurd cc
passages_are (Some xs) None h = absurd cc
passages_are (Some xs) (Some ys) h = ap Some (services_are xs ys h)

pub passage_itself : (o : Option (List ServiceNo)) → same_passage o o ≡ true
passage_itself None = refl
passage_itself (Some xs) = services_themselves xs

differ_is : (o u : Option (List ServiceNo)) → same_passage o u ≡ false → o ≢ u
differ_is o u h = λ same. let never : true ≡ false = sym (passage_itself u) ∙ ap (λ x. same_passage x u) (sym same) ∙ h in cc

is_differ : (o u : Option (List ServiceNo)) → o ≢ u → same_passage o u ≡ false
is_differ o u h =
    elim (same_passage o u) as (λ b. same_passage o u ≡ b → b ≡ false) [
      | true ↦ λ e. absurd (h (passages_are o u e))
      | false ↦ λ e. refl
    ] refl

-- at most one difference

abbrev F : Tuple → Difference → Bool
F t x = holds x.region t

abbrev K : Tuple → Compared → Bool
K t r = holds r.region t

abbrev pub old_fate : Config → Compared → Fate
old_fate c r = fate_by c r.before r.was

abbrev pub new_fate : Config → Compared → Fate
new_fate d r = fate_by d r.after r.becomes

abbrev pub made : List ℕ → List ℕ → Config → Config → Compared → Difference
made from to c d r = record { from = from; to = to; region = r.region; was = old_fate c r; becomes = new_fate d r }

many : (t : Tuple) (from to : List ℕ) (c d : Config) (r : Compared) → count_by (F t) (differences_of from to c d r) ≤ cond (K t r) 1 0
many t from to c d r =
    elim (same_passage (passage (old_fate c r)) (passage (new_fate d r))) as (λ b. count_by (F t) (cond b [] (made from to c d r ∷ [])) ≤ cond (K t r) 1 0) [
      | true ↦ omega arith
      | false ↦ let sum = sum_by-cons (λ (x : Difference). cond (F t x) 1 0) (made from to c d r) [] in omega arith
    ]

apart : (t : Tuple) (from to : List ℕ) (c d : Config) (rs : List Compared) → count_by (F t) (flat_map (differences_of from to c d) rs) ≤ count_by (K t) rs
apart t from to c d [] = omega arith
apart t from to c d (r ∷ rs) =
    let both : count_by (F t) (differences_of from to c d r ++ flat_map (differences_of from to c d) rs) ≡ count_by (F t) (differences_of from to c d r) + count_by (F t) (flat_map (differences_of from to c d) rs) =
    sum_by-append (λ (x : Difference). cond (F t x) 1 0) (differences_of from to c d r) (flat_map (differences_of from to c d) rs) in
    let here = many t from to c d r in
    let rest = apart t from to c d rs in
    let sum : count_by (K t) (r ∷ rs) ≡ cond (K t r) 1 0 + count_by (K t) rs = sum_by-cons (λ (s : Compared). cond (K t s) 1 0) r rs in
    omega arith

module _ (c : Config) (a b : Network) (d : Config) (a' b' : Network) (t : Tuple) (h : IsTuple t) where
  abbrev all : List Compared
  all = overlay (regions_between c a b) (regions_between d a' b')

  once : IsComparedOnce t all
  once = compared_once t (regions_between c a b) (regions_between d a' b') (between_lies c a b t h) (between_lies d a' b' t h)

  pub on_one_at_most : IsOnOneDifferenceAtMost (differences_between c a b d a' b') t
  on_one_at_most = let one = once in let most = apart t a.name b.name c d all in omega arith

  -- what two regions that hold a tuple have in common says what becomes of it

  fates : (r : Compared) → Contains all r → K t r ≡ true → (fate_between c a b t ≡ old_fate c r) × (fate_between d a' b' t ≡ new_fate d r)
  fates r at held =
      let says = All-contains (λ (s : Compared). IsTrue (holds s.region t) → (s.before ≡ decision c a b t) × (s.after ≡ decision d a' b' t)) all r
      (all_compare t (decision c a b t) (decision d a' b' t) (regions_between c a b) (regions_between d a' b') (between_decides c a b t h) (between_decides d a' b' t h)) at held in
      let does = All-contains (λ (s : Compared). IsTrue (holds s.region t) → (s.was ≡ effect_by (deciding c a b t)) × (s.becomes ≡ effect_by (deciding d a' b' t))) all r
      (all_turn t (effect_by (deciding c a b t)) (effect_by (deciding d a' b' t)) (regions_between c a b) (regions_between d a' b') (between_does c a b t h) (between_does d a' b' t h)) at held in
      ((λ i. fate_by c (sym says.0 i) (sym does.0 i)), (λ i. fate_by d (sym says.1 i) (sym does.1 i)))

  abbrev Made : Compared → Difference → Type 0
  Made r x = (made a.name b.name c d r ≡ x) × (passage (old_fate c r) ≢ passage (new_fate d r))

  made_of : (r : Compared) (x : Difference) → Contains (differences_of a.name b.name c d r) x → Made r x
  made_of r x =
      elim (same_passage (passage (old_fate c r)) (passage (new_fate d r))) as (λ q. same_passage (passage (old_fate c r)) (passage (new_fate d r)) ≡ q
      → Contains (cond q [] (made a.name b.name c d r ∷ [])) x → Made r x) [
        | true ↦ λ e at. nothing x at
        | false ↦ λ e at. (sole (made a.name b.name c d r) x at, differ_is (passage (old_fate c r)) (passage (new_fate d r)) e)
      ] refl

  pub fares : (was becomes : Fate) → IsOnDifference (differences_between c a b d a' b') t was becomes → FaresOtherwise c a b d a' b' t was becomes
  fares was becomes on =
      let found = joined_is (differences_of a.name b.name c d) all on.difference on.stands in
      let r : Compared = found.0 in
      let is = made_of r on.difference found.2 in
      let held : K t r ≡ true = subst (λ (x : Difference). IsTrue (holds x.region t)) (sym is.0) on.on in
      let both = fates r found.1 held in
      let first : old_fate c r ≡ was = ap (λ (x : Difference). x.was) is.0 ∙ on.before in
      let second : new_fate d r ≡ becomes = ap (λ (x : Difference). x.becomes) is.0 ∙ on.after in
      record {
        before = both.0 ∙ first;
        after = both.1 ∙ second;
        differ = λ same. is.1 (ap passage first ∙ same ∙ sym (ap passage second));
      }

  pub is_on : (was becomes : Fate) → FaresOtherwise c a b d a' b' t was becomes → IsOnDifference (differences_between c a b d a' b') t was becomes
  is_on was becomes f =
      let found = some_held (K t) all once in
      let r : Compared = found.0 in
      let both = fates r found.1 found.2 in
      let first : old_fate c r ≡ was = sym both.0 ∙ f.before in
      let second : new_fate d r ≡ becomes = sym both.1 ∙ f.after in
      let other : same_passage (passage (old_fate c r)) (passage (new_fate d r)) ≡ false =
      is_differ (passage (old_fate c r)) (passage (new_fate d r)) (λ same. f.differ (sym (ap passage first) ∙ same ∙ ap passage second)) in
      let here : Contains (differences_of a.name b.name c d r) (made a.name b.name c d r) =
      subst (λ (q : Bool). Contains (cond q [] (made a.name b.name c d r ∷ [])) (made a.name b.name c d r)) (sym other) (contains_here (made a.name b.name c d r) []) in
      record {
        difference = made a.name b.name c d r;
        stands = is_joined (differences_of a.name b.name c d) all r (made a.name b.name c d r) found.1 here;
        on = found.2;
        before = first;
        after = second;
      }

pub exact : (c : Config) (a b : Network) (d : Config) (a' b' : Network) (t : Tuple) (was becomes : Fate) → IsTuple t
    → IsOnDifference (differences_between c a b d a' b') t was becomes ↔ FaresOtherwise c a b d a' b' t was becomes
exact c a b d a' b' t was becomes h = (fares c a b d a' b' t h was becomes, is_on c a b d a' b' t h was becomes)
