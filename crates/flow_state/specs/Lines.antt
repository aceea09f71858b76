-- What `flows` writes.
use Rattle.std.specs.Prelude.{ℕ, ◌+◌, List, [], ◌∷◌, ◌++◌, codes, decimal}
use Rattle.config_check.specs.Checked.{Checked}
use Rattle.schedule_script.specs.Texts.{tie_text}
use Rattle.schedule_script.specs.declared.edits.TiedFault.{TiedFault}
use Rattle.schedule_script.specs.declared.edits.TiedFault.TheVariants.{Edit, Tied}
use Rattle.flow_state.specs.declared.step.FlowStep.{FlowStep}
use Rattle.flow_state.specs.declared.answer.FlowAnswer.{FlowAnswer}
use Rattle.flow_state.specs.declared.answer.FlowAnswer.TheVariants.{Edited, Refused, Traced}
use Rattle.flow_state.specs.Replay.{answers, at_start}
use Rattle.report.specs.Outcomes.{outcome_line}
use Rattle.report.specs.Refusals.{edit_fault_text}
use Rattle.report.specs.Restarts.{did_line}

-- why an edit is not made: what is missing, the rule that would be broken, or the tie
abbrev pub tied_fault_text : TiedFault → List ℕ
tied_fault_text (Edit fault) = edit_fault_text fault
tied_fault_text (Tied tie) = codes "Tied " ++ tie_text tie

-- the number of a step, and what it answers
unfoldable pub flow_line : ℕ → FlowAnswer → List ℕ
flow_line n Edited = did_line n
flow_line n (Refused fault) = decimal n ++ (codes " refused " ++ (tied_fault_text fault ++ (10 ∷ [])))
flow_line n (Traced outcome) = outcome_line n outcome

-- the line of each answer, the first with a number
abbrev pub lines_from : ℕ → List FlowAnswer → List ℕ
lines_from n [] = []
lines_from n (a ∷ given) = flow_line n a ++ lines_from (n + 1) given

-- what `flows` writes of a valid configuration, of a table's capacity and of steps, which count from 1
unfoldable pub flows_text : Checked → ℕ → List FlowStep → List ℕ
flows_text x capacity steps = lines_from 1 (answers capacity steps (at_start x))
