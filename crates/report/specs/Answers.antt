-- The lines of answers: the number of the event, and what it answers.
use Rattle.std.specs.Prelude.{ℕ, Bool, List, [], ◌∷◌, ◌++◌, codes, decimal, if◌then◌else◌, ⊤}
use Rattle.config_types.specs.declared.event.Event.{Event}
use Rattle.config_types.specs.declared.event.Event.TheVariants.{Show}
use Rattle.schedule_script.specs.Texts.{tie_text}
use Rattle.ov_types.specs.declared.rows.NodeRows.{NodeRows}
use Rattle.report.specs.Outcomes.{outcome_line}
use Rattle.report.specs.Refusals.{edit_fault_text}
use Rattle.report.specs.Rows.{node_lines}
use Rattle.schedule_script.specs.declared.answer.Answer.{Answer}
use Rattle.schedule_script.specs.declared.answer.Answer.TheVariants.{Did, Idle, EditRefused, Rounds, Shown, Traced}
use Rattle.schedule_script.specs.declared.tied_answer.TiedAnswer.{TiedAnswer}
use Rattle.schedule_script.specs.declared.tied_answer.TiedAnswer.TheVariants.{Answered, EditTied}

abbrev pub settled_text : Bool → List ℕ
settled_text settled = if settled then codes "settled" else codes "unsettled"

-- the node that is shown, and its rows
abbrev pub shown_lines : ℕ → List ℕ → NodeRows → List ℕ
shown_lines n node rows = (decimal n ++ (codes " show " ++ (node ++ (10 ∷ [])))) ++ node_lines node rows

-- rows are shown of the node that a show names
abbrev pub lines_shown : ℕ → Event → NodeRows → List ℕ
lines_shown n (Show node) rows = shown_lines n node rows
lines_shown n _ rows = []

-- what an event answers, which has this number
unfoldable pub answer_lines : ℕ → Event → Answer → List ℕ
answer_lines n event Did = decimal n ++ (codes " did" ++ (10 ∷ []))
answer_lines n event Idle = decimal n ++ (codes " idle" ++ (10 ∷ []))
answer_lines n event (EditRefused fault) = decimal n ++ (codes " refused " ++ (edit_fault_text fault ++ (10 ∷ [])))
answer_lines n event (Rounds rounds settled) =
    decimal n ++ (codes " " ++ (settled_text settled ++ (codes " rounds " ++ (decimal rounds ++ (10 ∷ [])))))
answer_lines n event (Shown rows) = lines_shown n event rows
answer_lines n event (Traced outcome) = outcome_line n outcome

-- what an event answers where ties are kept: an edit that would break a tie is refused with it
abbrev pub tied_answer_lines : ℕ → Event → TiedAnswer → List ℕ
tied_answer_lines n event (Answered answer) = answer_lines n event answer
tied_answer_lines n event (EditTied tie) = decimal n ++ (codes " refused Tied " ++ (tie_text tie ++ (10 ∷ [])))

abbrev pub IsShow : Event → Type 0
IsShow (Show node) = ⊤
IsShow _ = ⊥

-- rows answer a show, and no other event
abbrev pub IsAnswerTo : Event → Answer → Type 0
IsAnswerTo event (Shown rows) = IsShow event
IsAnswerTo event _ = ⊤
