-- Sends that are to fail, by their numbers from now on: 1 is the next send.
use Rattle.std.specs.Prelude.{ℕ, ◌-◌, List, [], ◌∷◌, ◌++◌, Bool, IsTrue, not, nat_le, ◌==◌, if◌then◌else◌}
use Rattle.std.specs.List.{list_any}

-- whether the n-th send from now on is to fail
abbrev pub is_break : List ℕ → ℕ → Bool
is_break breaks n = list_any (λ m. m == n) breaks

-- the breaks once a send was made: one that it met is used up, and each other is one nearer
abbrev pub counted : List ℕ → List ℕ
counted [] = []
counted (n ∷ breaks) = if nat_le n 1 then counted breaks else (n - 1) ∷ counted breaks

-- the breaks with one more send that is to fail
abbrev pub with_break : ℕ → List ℕ → List ℕ
with_break n breaks = if is_break breaks n then breaks else breaks ++ n ∷ []

-- no number stands twice
abbrev pub IsDistinct : List ℕ → Type 0
IsDistinct [] = Unit {0}
IsDistinct (n ∷ breaks) = IsTrue (not (is_break breaks n)) × IsDistinct breaks
