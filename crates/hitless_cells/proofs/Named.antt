-- What lists have of names that are distinct.
use Rattle.std.proofs.Common.{◌≡◌, ◌≢◌, ℕ, List, [], ◌∷◌, ◌++◌, Some, map, sym, ap, ◌∙◌, subst, arith}
use Rattle.std.specs.List.{All, AllPairs, Contains, find}
use Rattle.std.proofs.Common.{inl, inr}
use Rattle.std.proofs.lemmas.List.Elements.{All-contains, Contains-append_right}
use Rattle.std.proofs.lemmas.List.Kept.{AllPairs-cons}
use Rattle.ov_types.specs.First.{same_name}
use Rattle.ov_types.proofs.FirstLemmas.{all_cons, all_head, all_tail, contains_cases, found_is, pairs_head, pairs_tail, same_name_iff}
use Rattle.policy_rules.proofs.Lists.{is_mapped}
use Rattle.config_check.specs.Sentences.{AreDistinct}
use Rattle.reach_plain.proofs.Found.{finds}

-- pairs of two lists that are joined

all_front : {A : Type 0} (P : A → Type 0) (xs ys : List A) → All P (xs ++ ys) → All P xs
all_front P [] ys h = λ k d lt. absurd (omega arith)
all_front P (x ∷ xs) ys h = all_cons P x xs (all_head P x (xs ++ ys) h) (all_front P xs ys (all_tail P x (xs ++ ys) h))

pub front_pairs : {A : Type 0} (R : A → A → Type 0) (xs ys : List A) → AllPairs R (xs ++ ys) → AllPairs R xs
front_pairs R [] ys h = λ i j d lt within. absurd (omega arith)
front_pairs R (x ∷ xs) ys h = AllPairs-cons R x xs (all_front (R x) xs ys (pairs_head R x (xs ++ ys) h)) (front_pairs R xs ys (pairs_tail R x (xs ++ ys) h))

pub across : {A : Type 0} (R : A → A → Type 0) (xs ys : List A) → AllPairs R (xs ++ ys) → (x y : A) → Contains xs x → Contains ys y → R x y
across R [] ys h x y in_x in_y = absurd (omega (arith, in_x.1))
across R (z ∷ zs) ys h x y in_x in_y =
    elim (contains_cases z zs x in_x) [
      | inl here ↦ subst (λ w. R w y) here (All-contains (R z) (zs ++ ys) y (pairs_head R z (zs ++ ys) h) (Contains-append_right zs ys y in_y))
      | inr later ↦ across R zs ys (pairs_tail R z (zs ++ ys) h) x y later in_y
    ]

-- the one of a name

apart_from : {A : Type 0} (name_of : A → List ℕ) (z : A) (zs : List A) → AreDistinct (map name_of (z ∷ zs)) → (y : A) → Contains zs y → name_of z ≢ name_of y
apart_from name_of z zs h y at = All-contains (λ n. name_of z ≢ n) (map name_of zs) (name_of y) (pairs_head (λ a b. a ≢ b) (name_of z) (map name_of zs) h) (is_mapped name_of zs y at)

pub one_of_name : {A : Type 0} (name_of : A → List ℕ) (xs : List A) → AreDistinct (map name_of xs) → (x y : A) → Contains xs x → Contains xs y → name_of x ≡ name_of y → x ≡ y
one_of_name name_of [] h x y in_x in_y same = absurd (omega (arith, in_x.1))
one_of_name {A} name_of (z ∷ zs) h x y in_x in_y same =
    elim (contains_cases z zs x in_x) [
      | inl first ↦ elim (contains_cases z zs y in_y) [
        | inl second ↦ sym first ∙ second
        | inr later ↦ absurd (apart_from name_of z zs h y later (ap name_of first ∙ same))
      ]
      | inr later ↦ elim (contains_cases z zs y in_y) [
        | inl second ↦ absurd (apart_from name_of z zs h x later (ap name_of second ∙ sym same))
        | inr other ↦ one_of_name name_of zs (pairs_tail (λ a b. a ≢ b) (name_of z) (map name_of zs) h) x y later other same
      ]
    ]

-- what is found by its name in a list, and stands in another, is found there
pub found_on : {A : Type 0} (name_of : A → List ℕ) (xs ys : List A) (name : List ℕ) (x : A) → AreDistinct (map name_of ys)
    → ((y : A) → Contains xs y → Contains ys y) → find (λ y. same_name (name_of y) name) xs ≡ Some x → find (λ y. same_name (name_of y) name) ys ≡ Some x
found_on {A} name_of xs ys name x distinct grows h =
    let f = found_is (λ y. same_name (name_of y) name) xs x h in
    let named : name_of x ≡ name = (same_name_iff (name_of x) name).0 f.0 in
    let there = grows x f.1 in
    finds (λ y. same_name (name_of y) name) ys x there f.0
    (λ y in_y passes. one_of_name name_of ys distinct y x in_y there ((same_name_iff (name_of y) name).0 passes ∙ sym named))

-- what stands in a list is found by its name
pub found_of : {A : Type 0} (name_of : A → List ℕ) (xs : List A) (name : List ℕ) (x : A) → AreDistinct (map name_of xs) → Contains xs x → name_of x ≡ name
    → find (λ y. same_name (name_of y) name) xs ≡ Some x
found_of name_of xs name x distinct there named =
    finds (λ y. same_name (name_of y) name) xs x there ((same_name_iff (name_of x) name).1 named)
    (λ y in_y passes. one_of_name name_of xs distinct y x in_y there ((same_name_iff (name_of y) name).0 passes ∙ sym named))
