-- What `gen` writes of a scenario.
use Rattle.std.specs.Prelude.{ℕ, List, length}
use Rattle.report.specs.Summaries.{summary_lines}
use Rattle.scenario_gen.specs.Scenario.{scenario}
use Rattle.scenario_gen.specs.Tenants.{tenants}
use Rattle.top_call.specs.declared.tally.Tally.{Tally}
use Rattle.top_call.specs.Scenarios.{opening, schedule}
use Rattle.top_call.specs.Tallies.{tally}

-- the summary of a scenario whose answers were counted so
abbrev pub summary_of : ℕ → Tally → List ℕ
summary_of n t =
    summary_lines n (length (scenario n).config.networks) (length (scenario n).config.ports) (tenants n) t.rounds
    t.delivered t.agreed

-- what `gen` writes of a valid scenario: the summary of its events and of its packets
unfoldable pub summary_text : ℕ → List ℕ
summary_text n = summary_of n (tally (opening n) (schedule n))
