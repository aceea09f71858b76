-- The lines that tell of a scenario that was run.
use Rattle.std.specs.Prelude.{ℕ, List, [], ◌∷◌, ◌++◌, codes, decimal}

-- the scenario, and how many things it has
abbrev pub scenario_line : ℕ → ℕ → ℕ → ℕ → List ℕ
scenario_line n networks ports uses =
    codes "gen " ++ (decimal n ++ (codes " controllers 3 nodes 20 networks " ++ (decimal networks
    ++ (codes " ports " ++ (decimal ports ++ (codes " uses " ++ (decimal uses ++ (10 ∷ []))))))))

-- how many rounds each of its two settles took
abbrev pub rounds_line : ℕ × ℕ → List ℕ
rounds_line rounds = codes "rounds " ++ (decimal rounds.0 ++ (codes " " ++ (decimal rounds.1 ++ (10 ∷ []))))

-- how many of its packets were delivered, and how many had the outcome that policies give
abbrev pub traces_line : ℕ → ℕ → List ℕ
traces_line delivered agreed =
    codes "traces 40 delivered " ++ (decimal delivered ++ (codes " agreed " ++ (decimal agreed ++ (10 ∷ []))))

unfoldable pub summary_lines : ℕ → ℕ → ℕ → ℕ → ℕ × ℕ → ℕ → ℕ → List ℕ
summary_lines n networks ports uses rounds delivered agreed =
    scenario_line n networks ports uses ++ (rounds_line rounds ++ traces_line delivered agreed)
