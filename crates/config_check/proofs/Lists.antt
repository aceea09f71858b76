-- First things in what is left of a list.
use Rattle.std.proofs.Common.{◌≡◌, ℕ, zero, suc, arith, ◌+◌, ◌<◌, Bool, true, false, cond, List, [], ◌∷◌, ◌++◌, Option, Some, None, length, take, drop, get_or, refl, sym, ap, ◌∙◌}
use Rattle.std.specs.List.{find}
use Rattle.std.proofs.lemmas.List.{take_more}
use Rattle.ov_types.specs.First.{first_of, meeting_after}
use Rattle.ov_types.proofs.FirstLemmas.{next_is}

pub none_here : {A B : Type 0} (f : A → Option B) (xs : List A) (i : ℕ) (x : A) (total : Option B) → i < length xs → x ≡ get_or xs i x
    → f x ≡ None → first_of f (drop i xs) ≡ total → first_of f (drop (i + 1) xs) ≡ total
none_here {A} {B} f xs i x total lt at missed so_far =
    let step : first_of f (x ∷ drop (i + 1) xs) ≡ first_of f (drop (i + 1) xs) = rw missed refl in
    sym step ∙ ap (first_of f) (sym (next_is xs i x lt at)) ∙ so_far

pub some_here : {A B : Type 0} (f : A → Option B) (xs : List A) (i : ℕ) (x : A) (y : B) (total : Option B) → i < length xs → x ≡ get_or xs i x
    → f x ≡ Some y → first_of f (drop i xs) ≡ total → Some y ≡ total
some_here {A} {B} f xs i x y total lt at hit so_far =
    let step : first_of f (x ∷ drop (i + 1) xs) ≡ Some y = rw hit refl in
    sym step ∙ ap (first_of f) (sym (next_is xs i x lt at)) ∙ so_far

pub taken_more : {A : Type 0} (xs : List A) (i : ℕ) (x : A) → i < length xs → x ≡ get_or xs i x → take (i + 1) xs ≡ take i xs ++ x ∷ []
taken_more {A} xs i x lt at = take_more xs i x lt ∙ ap (λ (y : A). take i xs ++ y ∷ []) (sym at)

pub met_here : {A : Type 0} (meets : A → A → Bool) (xs : List A) (i : ℕ) (x : A) (b : A) (total : Option (A × A)) → i < length xs → x ≡ get_or xs i x
    → find (λ b. meets b x) (take i xs) ≡ Some b → meeting_after meets (take i xs) (drop i xs) ≡ total → Some (b, x) ≡ total
met_here {A} meets xs i x b total lt at hit so_far =
    let step : meeting_after meets (take i xs) (x ∷ drop (i + 1) xs) ≡ Some (b, x) = rw hit refl in
    sym step ∙ ap (meeting_after meets (take i xs)) (sym (next_is xs i x lt at)) ∙ so_far

pub not_met_here : {A : Type 0} (meets : A → A → Bool) (xs : List A) (i : ℕ) (x : A) (total : Option (A × A)) → i < length xs → x ≡ get_or xs i x
    → find (λ b. meets b x) (take i xs) ≡ None → meeting_after meets (take i xs) (drop i xs) ≡ total
    → meeting_after meets (take (i + 1) xs) (drop (i + 1) xs) ≡ total
not_met_here {A} meets xs i x total lt at missed so_far =
    let more = taken_more xs i x lt at in
    let step : meeting_after meets (take i xs) (x ∷ drop (i + 1) xs) ≡ meeting_after meets (take i xs ++ x ∷ []) (drop (i + 1) xs) = rw missed refl in
    ap (λ (front : List A). meeting_after meets front (drop (i + 1) xs)) more ∙ sym step
    ∙ ap (meeting_after meets (take i xs)) (sym (next_is xs i x lt at)) ∙ so_far

pub found_here : {A : Type 0} (p : A → Bool) (xs : List A) (i : ℕ) (x : A) (total : Option A) → i < length xs → x ≡ get_or xs i x
    → p x ≡ true → find p (drop i xs) ≡ total → total ≡ Some x
found_here {A} p xs i x total lt at hit so_far =
    let step : find p (x ∷ drop (i + 1) xs) ≡ Some x = rw hit refl in
    sym (sym step ∙ ap (find p) (sym (next_is xs i x lt at)) ∙ so_far)

pub not_found_here : {A : Type 0} (p : A → Bool) (xs : List A) (i : ℕ) (x : A) (total : Option A) → i < length xs → x ≡ get_or xs i x
    → p x ≡ false → find p (drop i xs) ≡ total → find p (drop (i + 1) xs) ≡ total
not_found_here {A} p xs i x total lt at missed so_far =
    let step : find p (x ∷ drop (i + 1) xs) ≡ find p (drop (i + 1) xs) = rw missed refl in
    sym step ∙ ap (find p) (sym (next_is xs i x lt at)) ∙ so_far

pub none_found : {A : Type 0} (p : A → Bool) (xs : List A) (i : ℕ) (x : A) → i < length xs → x ≡ get_or xs i x → find p xs ≡ None → p x ≡ false
none_found {A} p [] i x lt at h = absurd (omega arith)
none_found {A} p (y ∷ ys) zero x lt at h =
    ap p at ∙ elim (p y) as (λ b. cond b (Some y) (find p ys) ≡ None → b ≡ false) [ true ↦ λ e. cc | false ↦ λ e. refl ] h
none_found {A} p (y ∷ ys) (suc i) x lt at h =
    none_found p ys i x (omega arith) at (elim (p y) as (λ b. cond b (Some y) (find p ys) ≡ None → find p ys ≡ None) [ true ↦ λ e. cc | false ↦ λ e. e ] h)

-- a step of a loop that asks each item, and of one that seeks an item

pub ruleset asked = (none_here, some_here)

pub ruleset sought = (found_here, not_found_here)
