-- The first two that meet in a list: where they stand.
use Rattle.std.proofs.Common.{◌≡◌, ◌<◌, ℕ, zero, suc, Bool, true, List, [], ◌∷◌, ◌++◌, Option, Some, option_map, IfSome, length, refl, subst, append_assoc, arith}
use Rattle.std.specs.List.{find, slice_get}
use Rattle.ov_types.specs.First.{meeting_after, first_meeting}
use Rattle.ov_types.proofs.FirstLemmas.{answered, of_either, of_mapped, found}
use Rattle.config_refusal_laws.specs.Breaks.{StandsBefore, StandsTwice}

-- the first two that meet

pub at_front : {A : Type 0} (xs ys : List A) (k : ℕ) (x : A) → slice_get xs k ≡ Some x → (k < length xs) × (slice_get (xs ++ ys) k ≡ Some x)
at_front [] ys k x h = cc
at_front (y ∷ xs) ys zero x h = (omega arith, h)
at_front (y ∷ xs) ys (suc k) x h = let rest = at_front xs ys k x h in let within : k < length xs = rest.0 in (omega arith, rest.1)

pub at_seam : {A : Type 0} (xs ys : List A) (x : A) → slice_get (xs ++ x ∷ ys) (length xs) ≡ Some x
at_seam [] ys x = refl
at_seam (y ∷ xs) ys x = at_seam xs ys x

abbrev IsPair : {A : Type 0} → (A → A → Bool) → List A → A × A → Type 0
IsPair meets xs m = StandsBefore xs m.0 m.1 × (meets m.0 m.1 ≡ true)

pair_after : {A : Type 0} (meets : A → A → Bool) (before xs : List A) → IfSome (meeting_after meets before xs) (IsPair meets (before ++ xs))
pair_after meets before [] = tt
pair_after {A} meets before (x ∷ xs) =
    let earlier : Option A = find (λ b. meets b x) before in
    let rest : Option (A × A) = meeting_after meets (before ++ x ∷ []) xs in
    of_either (IsPair meets (before ++ x ∷ xs)) (option_map (λ (b : A). (b, x)) earlier) rest
    (of_mapped (IsPair meets (before ++ x ∷ xs)) (λ (b : A). (b, x)) earlier
    (λ b e.
    let f = found (λ b. meets b x) before b e in
    let front = at_front before (x ∷ xs) f.place b f.there in
    (record { earlier = f.place; later = length before; in_order = front.0; first_there = front.1; second_there = at_seam before xs x }, f.passes)))
    (subst (λ (ys : List A). IfSome rest (IsPair meets ys)) (append_assoc before (x ∷ []) xs) (pair_after meets (before ++ x ∷ []) xs))

pub first_pair : {A : Type 0} (meets : A → A → Bool) (xs : List A) (m : A × A) → first_meeting meets xs ≡ Some m → StandsBefore xs m.0 m.1 × (meets m.0 m.1 ≡ true)
first_pair meets xs m e = answered (IsPair meets xs) (first_meeting meets xs) (pair_after meets [] xs) m e

pub pair_twice : {A : Type 0} (meets : A → A → Bool) → ((a b : A) → meets a b ≡ true → a ≡ b) → (xs : List A) (m : A × A) → first_meeting meets xs ≡ Some m → StandsTwice xs m.1
pair_twice {A} meets same xs m e =
    let h = first_pair meets xs m e in
    subst (λ (a : A). StandsBefore xs a m.1) (same m.0 m.1 h.1) h.0

pub before_later : {A : Type 0} (x : A) (xs : List A) (a b : A) → StandsBefore xs a b → StandsBefore (x ∷ xs) a b
before_later x xs a b h =
    let less : h.earlier < h.later = h.in_order in
    record { earlier = suc h.earlier; later = suc h.later; in_order = omega arith; first_there = h.first_there; second_there = h.second_there }
