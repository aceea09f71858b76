-- What `run` writes.
use Rattle.std.specs.Prelude.{ℕ, ◌+◌, List, [], ◌∷◌, ◌++◌}
use Rattle.config_types.specs.declared.event.Event.{Event}
use Rattle.config_check.specs.Checked.{Checked}
use Rattle.report.specs.Answers.{tied_answer_lines}
use Rattle.schedule_script.specs.declared.tied_answer.TiedAnswer.{TiedAnswer}
use Rattle.net_machine.specs.MachineMomentLaws.Runs.{answers}

-- the lines of events and their answers, the first with a number
abbrev pub lines_from : ℕ → List Event → List TiedAnswer → List ℕ
lines_from n [] answered = []
lines_from n (e ∷ es) [] = []
lines_from n (e ∷ es) (a ∷ answered) = tied_answer_lines n e a ++ lines_from (n + 1) es answered

-- what `run` writes of a valid opening configuration and of events
unfoldable pub run_text : Checked → List Event → List ℕ
run_text x es = lines_from 1 es (answers x es)
