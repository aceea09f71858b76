-- What is answered to the number of a scenario, and what is left and promised of it.
use Rattle.std.specs.Prelude.{◌≡◌, ℕ, List}
use Rattle.std.specs.declared.option.Option.{Option}
use Rattle.std.specs.declared.option.Option.TheVariants.{Some}
use Rattle.std.specs.Io.KnownBytes.{Appends}
use Rattle.config_check.specs.Rules.{first_broken}
use Rattle.compile_answers.specs.Answers.{DocumentAnswer, answer_checked}
use Rattle.scenario_gen.specs.Scenario.{scenario}
use Rattle.net_machine.specs.NetState.{NetState}
use Rattle.net_machine.specs.Taken.{HasTaken}
use Rattle.net_machine.specs.MachineMomentLaws.TiedCompiled.{AreAsCompiled}
use Rattle.net_machine.specs.MachineMomentLaws.Isolated.{IsIsolated}
use Rattle.net_machine.specs.MachineMomentLaws.Runs.{answers}
use Rattle.net_machine.specs.MachineMomentLaws.KeptSchedules.{IsKeptThroughout}
use Rattle.net_machine.specs.MachineMomentLaws.AgainSchedules.{IsAgainThroughout}
use Rattle.net_machine.specs.MachineMomentLaws.PermissionSchedules.{IsPermittedThroughout}
use Rattle.net_machine.specs.MachineMomentLaws.RevocationSchedules.{IsRevoked}
use Rattle.top_call.specs.Agreed.{PacketsAgree}
use Rattle.top_call.specs.Scenarios.{opening, schedule}
use Rattle.top_call.specs.Generating.{summary_text}

-- what `gen` answers of a scenario
unfoldable pub gen_answer : ℕ → DocumentAnswer
gen_answer n = answer_checked (first_broken (scenario n).topology (scenario n).config) (summary_text n)

-- the network that `gen` leaves of a scenario: it took the scenario's events, and then a trace for each of its packets
pub record IsLeftOfScenario (n : ℕ) (left : Option NetState) : Type 0 where
  pub net : NetState
  pub is_left : left ≡ Some net
  pub took : HasTaken (opening n) (schedule n) net

-- what was taken is the summary of a scenario, whose answers are as compiled and isolated, let packets pass only as
-- configurations so far permitted, two rounds after an edit let nothing through that its policies refuse, while a change goes on
-- deliver what all its configurations keep, and so many rounds later deliver it again: each of its packets has the outcome that
-- policies give
pub record TookSummary (n : ℕ) (old new : Option (List ℕ)) : Type 0 where
  pub taken : Appends old new (summary_text n)
  pub compiled : AreAsCompiled (opening n) (schedule n) (answers (opening n) (schedule n))
  pub isolated : IsIsolated (opening n) (schedule n) (answers (opening n) (schedule n))
  pub permitted : IsPermittedThroughout (opening n) (schedule n) (answers (opening n) (schedule n))
  pub revoked : IsRevoked (opening n) (schedule n) (answers (opening n) (schedule n))
  pub uninterrupted : IsKeptThroughout (opening n) (schedule n) (answers (opening n) (schedule n))
  pub again : IsAgainThroughout (opening n) (schedule n) (answers (opening n) (schedule n))
  pub agree : PacketsAgree n
