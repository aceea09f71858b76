-- How long lists are that others bound, and tests that each item passes.
use Rattle.std.proofs.Common.{◌≡◌, ◌≢◌, ◌*◌, ◌≤◌, Bool, true, List, [], ◌∷◌, length, filter, flat_map, get_or, inl, inr, refl, subst, arith}
use Rattle.std.proofs.Common.{length-append}
use Rattle.std.specs.Bool.{Decides}
use Rattle.std.specs.Cmp.{IsEquivalence}
use Rattle.std.specs.List.{AllPairs, AllZip, Contains, list_all}
use Rattle.std.proofs.lemmas.List.Elements.{All-contains, Contains-get_or}
use Rattle.std.proofs.lemmas.List.Sums.{count_by-le-length, length-filter}
use Rattle.std.proofs.lemmas.Map.Made.{IsDistinct-from_AllPairs, length-le_from_is_member}
use Rattle.std.proofs.lemmas.Map.Views.{Contains-from_any, list_any-from_Contains}
use Rattle.ov_types.proofs.FirstLemmas.{contains_cases, contains_here, contains_later}
use Rattle.machine_model.proofs.ConfigCheck.Iffs.{list_all_true}

-- ---- tests that each item passes
pub each_passes : {A : Type 0} (p : A → Bool) (xs : List A) → ((x : A) → Contains xs x → p x ≡ true) → list_all p xs ≡ true
each_passes p xs each = (list_all_true p xs).1 (λ k d lt. each (get_or xs k d) (Contains-get_or xs k d lt))

pub passes_at : {A : Type 0} (p : A → Bool) (xs : List A) (x : A) → list_all p xs ≡ true → Contains xs x → p x ≡ true
passes_at p xs x h at = All-contains (λ y. p y ≡ true) xs x ((list_all_true p xs).0 h) at

-- ---- how long lists are
-- items no two of which are equal are no more than a list that has each of them
module _ {K : Type 0} {eq : K → K → Bool} (laws : IsEquivalence eq) (same : (a b : K) → Decides (eq a b) (a ≡ b)) where
  pub no_more : (xs ys : List K) → AllPairs (λ x y. x ≢ y) xs → ((q : K) → Contains xs q → Contains ys q) → length xs ≤ length ys
  no_more xs ys apart within =
      length-le_from_is_member laws xs ys (IsDistinct-from_AllPairs same xs apart)
      (λ q m. list_any-from_Contains laws q ys (within q (Contains-from_any (λ x y h. (same x y).0 h) q xs m)))

pub length_kept : {A : Type 0} (p : A → Bool) (xs : List A) → length (filter p xs) ≤ length xs
length_kept p xs = omega (arith, length-filter p xs, count_by-le-length p xs)

pub length_twice : {A B : Type 0} (f : A → List B) → ((x : A) → length (f x) ≤ 2) → (xs : List A) → length (flat_map f xs) ≤ 2 * length xs
length_twice f each [] = omega arith
length_twice f each (x ∷ xs) = omega (arith, length-append (f x) (flat_map f xs), each x, length_twice f each xs)

pub length_sixteen : {A B : Type 0} (f : A → List B) (xs : List A) → ((x : A) → Contains xs x → length (f x) ≤ 16)
    → length (flat_map f xs) ≤ 16 * length xs
length_sixteen f [] each = omega arith
length_sixteen f (x ∷ xs) each =
    omega (
      arith,
      length-append (f x) (flat_map f xs),
      each x (contains_here x xs),
      length_sixteen f xs (λ y at. each y (contains_later y x xs at)),
    )

pub length_zip : {A B : Type 0} (R : A → B → Type 0) (xs : List A) (ys : List B) → AllZip R xs ys → length ys ≡ length xs
length_zip R [] [] z = refl
length_zip R [] (y ∷ ys) z = absurd z
length_zip R (x ∷ xs) [] z = absurd z
length_zip R (x ∷ xs) (y ∷ ys) z = omega (arith, length_zip R xs ys z.1)

pub some_in : {A : Type 0} (xs : List A) (x : A) → Contains xs x → 1 ≤ length xs
some_in xs x at = let within = at.1 in omega arith

-- what holds of each pair of a zip holds at each item of the second list, for some item of the first
pub zipped_at : {A B : Type 0} (R : A → B → Type 0) (xs : List A) (ys : List B) (y : B) → AllZip R xs ys → Contains ys y
    → (x : A) × Contains xs x × R x y
zipped_at R [] [] y z at = absurd (omega (arith, at.1))
zipped_at R [] (w ∷ ys) y z at = absurd z
zipped_at R (x ∷ xs) [] y z at = absurd z
zipped_at R (x ∷ xs) (w ∷ ys) y z at =
    elim (contains_cases w ys y at) [
      | inl same ↦ (x, contains_here x xs, subst (R x) same z.0)
      | inr later ↦ let q = zipped_at R xs ys y z.1 later in (q.0, contains_later q.0 x xs q.1, q.2)
    ]
