-- What is promised of the scenarios that are valid.
use Rattle.std.specs.Prelude.{◌≡◌, ℕ, length}
use Rattle.scenario_gen.specs.Scenario.{scenario}
use Rattle.top_call.specs.Scenarios.{opening, schedule}
use Rattle.top_call.specs.Tallies.{tally}

-- every packet has the outcome that policies give
abbrev pub PacketsAgree : ℕ → Type 0
PacketsAgree n = (tally (opening n) (schedule n)).agreed ≡ length (scenario n).packets
