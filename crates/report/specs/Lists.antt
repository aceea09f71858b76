-- Lists, as they are printed.
use Rattle.std.specs.Prelude.{ℕ, List, [], ◌∷◌, ◌++◌, codes}

-- items after the first, each behind a comma
abbrev pub more_text : {T : Type 0} → (T → List ℕ) → List T → List ℕ
more_text text [] = []
more_text text (x ∷ xs) = (codes "," ++ text x) ++ more_text text xs

-- items joined by commas, and `-` where there are none
abbrev pub list_text : {T : Type 0} → (T → List ℕ) → List T → List ℕ
list_text text [] = codes "-"
list_text text (x ∷ xs) = text x ++ more_text text xs
