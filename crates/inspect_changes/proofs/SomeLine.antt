-- A text of lines is empty just where there is no line.
use Rattle.std.proofs.Common.{◌≡◌, ◌≢◌, ℕ, List, [], ◌∷◌, ◌++◌, flat_map, refl}
use Rattle.std.specs.Prelude.{codes}
use Rattle.inspect_changes.specs.DifferenceLines.{came_line, difference_line, fate_text, lists_text, went_line}
use Rattle.inspect_changes.specs.Lines.{region_text}
use Rattle.inspect_changes.specs.declared.fate.Difference.{Difference}
use Rattle.inspect_changes.specs.declared.objects.Object.{Object}

some_first : {A : Type 0} (x : A) (xs ys : List A) → (x ∷ xs) ++ ys ≢ []
some_first x xs ys h = cc

some_last : {A : Type 0} (xs ys : List A) → ys ≢ [] → xs ++ ys ≢ []
some_last [] ys h e = h e
some_last (x ∷ xs) ys h e = cc

first_none : {A : Type 0} (xs ys : List A) → xs ++ ys ≡ [] → xs ≡ []
first_none [] ys h = refl
first_none (x ∷ xs) ys h = absurd cc

last_none : {A : Type 0} (xs ys : List A) → xs ++ ys ≡ [] → ys ≡ []
last_none [] ys h = h
last_none (x ∷ xs) ys h = absurd cc

went_some : (o : Object) → went_line o ≢ []
unfolding went_line
went_some o h = cc

came_some : (o : Object) → came_line o ≢ []
unfolding came_line
came_some o h = cc

difference_some : (x : Difference) → difference_line x ≢ []
unfolding difference_line
difference_some x h =
    some_last x.from (codes " > " ++ (x.to ++ (codes " " ++ (region_text x.region ++ (codes ": " ++ (fate_text x.was ++ (codes " => " ++ (fate_text x.becomes ++ (10 ∷ []))))))))) (λ e. cc) h

no_item : {A : Type 0} (f : A → List ℕ) → ((x : A) → f x ≢ []) → (xs : List A) → flat_map f xs ≡ [] → xs ≡ []
no_item f some [] h = refl
no_item f some (x ∷ xs) h = absurd (some x (first_none (f x) (flat_map f xs) h))

pub no_went : (went came : List Object) (differences : List Difference) → lists_text went came differences ≡ [] → went ≡ []
no_went went came differences h =
    no_item went_line went_some went (first_none (flat_map went_line went) (flat_map came_line came ++ flat_map difference_line differences) h)

pub no_came : (went came : List Object) (differences : List Difference) → lists_text went came differences ≡ [] → came ≡ []
no_came went came differences h =
    no_item came_line came_some came
    (first_none (flat_map came_line came) (flat_map difference_line differences)
    (last_none (flat_map went_line went) (flat_map came_line came ++ flat_map difference_line differences) h))

pub no_difference : (went came : List Object) (differences : List Difference) → lists_text went came differences ≡ [] → differences ≡ []
no_difference went came differences h =
    no_item difference_line difference_some differences
    (last_none (flat_map came_line came) (flat_map difference_line differences)
    (last_none (flat_map went_line went) (flat_map came_line came ++ flat_map difference_line differences) h))
