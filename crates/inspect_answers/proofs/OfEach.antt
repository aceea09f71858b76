-- What holds of each item of lists that are made of others.
use Rattle.std.proofs.Common.{◌≡◌, inl, inr, Bool, true, false, cond, List, [], ◌∷◌, ◌++◌, Option, Some, None, map, flat_map, reverse, refl, subst, arith}
use mathlib.Core.List.{reverse_aux}
use Rattle.std.specs.Prelude.{⊤, option_map}
use Rattle.std.specs.List.{Contains, list_all}
use Rattle.std.proofs.lemmas.Bool.{and_from, and_parts}
use Rattle.ov_types.specs.First.{◌<|>◌}
use Rattle.ov_types.proofs.FirstLemmas.{contains_cases, contains_here, contains_later}

abbrev pub Each : {A : Type 0} → (A → Type 0) → List A → Type 0
Each P [] = ⊤
Each P (x ∷ xs) = P x × Each P xs

abbrev pub OfSome : {A : Type 0} → (A → Type 0) → Option A → Type 0
OfSome P None = ⊤
OfSome P (Some x) = P x

pub each_append : {A : Type 0} (P : A → Type 0) (xs ys : List A) → Each P xs → Each P ys → Each P (xs ++ ys)
each_append P [] ys h k = k
each_append P (x ∷ xs) ys h k = (h.0, each_append P xs ys h.1 k)

pub each_map : {A B : Type 0} (Q : A → Type 0) (P : B → Type 0) (f : A → B) → ((x : A) → Q x → P (f x)) → (xs : List A) → Each Q xs → Each P (map f xs)
each_map Q P f each [] h = tt
each_map Q P f each (x ∷ xs) h = (each x h.0, each_map Q P f each xs h.1)

pub each_flat : {A B : Type 0} (Q : A → Type 0) (P : B → Type 0) (f : A → List B) → ((x : A) → Q x → Each P (f x)) → (xs : List A) → Each Q xs
    → Each P (flat_map f xs)
each_flat Q P f each [] h = tt
each_flat Q P f each (x ∷ xs) h = each_append P (f x) (flat_map f xs) (each x h.0) (each_flat Q P f each xs h.1)

pub each_flat_all : {A B : Type 0} (P : B → Type 0) (f : A → List B) → ((x : A) → Each P (f x)) → (xs : List A) → Each P (flat_map f xs)
each_flat_all P f each [] = tt
each_flat_all P f each (x ∷ xs) = each_append P (f x) (flat_map f xs) (each x) (each_flat_all P f each xs)

each_onto : {A : Type 0} (P : A → Type 0) (xs ys : List A) → Each P xs → Each P ys → Each P (reverse_aux xs ys)
each_onto P [] ys h k = k
each_onto P (x ∷ xs) ys h k = each_onto P xs (x ∷ ys) h.1 (h.0, k)

pub each_reversed : {A : Type 0} (P : A → Type 0) (xs : List A) → Each P xs → Each P (reverse xs)
each_reversed P xs h = each_onto P xs [] h tt

-- what holds of all that stand in a list holds of each
pub each_of : {A : Type 0} (P : A → Type 0) (xs : List A) → ((x : A) → Contains xs x → P x) → Each P xs
each_of P [] h = tt
each_of P (x ∷ xs) h = (h x (contains_here x xs), each_of P xs (λ y at. h y (contains_later y x xs at)))

pub of_each : {A : Type 0} (P : A → Type 0) (xs : List A) (x : A) → Each P xs → Contains xs x → P x
of_each P [] x h at = absurd (omega (arith, at.1))
of_each P (y ∷ ys) x h at =
    elim (contains_cases y ys x at) [
      | inl same ↦ subst P same h.0
      | inr later ↦ of_each P ys x h.1 later
    ]

-- one of two lists
pub each_cond : {A : Type 0} (P : A → Type 0) (b : Bool) (xs ys : List A) → (b ≡ true → Each P xs) → (b ≡ false → Each P ys) → Each P (cond b xs ys)
each_cond P true xs ys h k = h refl
each_cond P false xs ys h k = k refl

-- a test that each passes
pub each_passes : {A : Type 0} (p : A → Bool) (xs : List A) → Each (λ x. p x ≡ true) xs → list_all p xs ≡ true
each_passes p [] h = refl
each_passes p (x ∷ xs) h = and_from (p x) (list_all p xs) h.0 (each_passes p xs h.1)

pub passes_each : {A : Type 0} (p : A → Bool) (xs : List A) → list_all p xs ≡ true → Each (λ x. p x ≡ true) xs
passes_each p [] h = tt
passes_each p (x ∷ xs) h = let parts = and_parts (p x) (list_all p xs) h in (parts.0, passes_each p xs parts.1)

pub passes_of : {A : Type 0} (p : A → Bool) (xs : List A) (x : A) → list_all p xs ≡ true → Contains xs x → p x ≡ true
passes_of p xs x h at = of_each (λ y. p y ≡ true) xs x (passes_each p xs h) at

-- an answer that may be none
pub of_cond : {A : Type 0} (P : A → Type 0) (b : Bool) (x y : Option A) → OfSome P x → OfSome P y → OfSome P (cond b x y)
of_cond P true x y h k = h
of_cond P false x y h k = k

pub of_either : {A : Type 0} (P : A → Type 0) (x y : Option A) → OfSome P x → OfSome P y → OfSome P (x <|> y)
of_either P None y h k = k
of_either P (Some x) y h k = h

pub of_mapped : {A B : Type 0} (Q : A → Type 0) (P : B → Type 0) (f : A → B) → ((x : A) → Q x → P (f x)) → (o : Option A) → OfSome Q o → OfSome P (option_map f o)
of_mapped Q P f each None h = tt
of_mapped Q P f each (Some x) h = each x h
