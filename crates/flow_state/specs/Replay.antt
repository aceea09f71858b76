-- Lists of steps: edits, and packets that are traced.
use Rattle.std.specs.Prelude.{ℕ, List, [], ◌∷◌, Option, Some, None}
use Rattle.config_types.specs.declared.edit.Edit.{Edit}
use Rattle.config_check.specs.Checked.{Checked}
use Rattle.config_check.specs.Edits.{edited}
use Rattle.schedule_script.specs.Ties.{Ties}
use Rattle.schedule_script.specs.Tied.{tied_fault}
use Rattle.schedule_script.specs.Tying.{joined, ties_of}
use Rattle.schedule_script.specs.declared.edits.TiedFault.{TiedFault}
use Rattle.flow_state.specs.declared.step.FlowStep.{FlowStep}
use Rattle.flow_state.specs.declared.step.FlowStep.TheVariants as Steps
use Rattle.flow_state.specs.declared.flow.Flow.{Flow}
use Rattle.flow_state.specs.Recent.{recent}
use Rattle.flow_state.specs.Flows.{flow_outcome, flow_use}
use Rattle.flow_state.specs.declared.answer.FlowAnswer.{FlowAnswer}
use Rattle.flow_state.specs.declared.answer.FlowAnswer.TheVariants.{Edited, Refused, Traced}

-- what some steps left: what is configured, the ties of the configurations so far, and the uses since the last accepted
-- edit, or since the start, the last use first
pub record Replay : Type 0 where
  pub checked : Checked
  pub ties : Ties
  pub uses : List Flow

-- the flows that may be answered now: those that were used last, as many as there is room for
abbrev pub table_of : ℕ → Replay → List Flow
table_of capacity s = recent capacity s.uses

abbrev pub used : Option Flow → List Flow → List Flow
used None uses = uses
used (Some f) uses = f ∷ uses

-- an accepted edit leaves no use, and what it makes joins the ties; a refused one leaves all as it was
abbrev pub after_edit : Edit → Option TiedFault → Replay → Replay
after_edit e None s = record { checked = edited e s.checked; ties = joined s.ties (edited e s.checked); uses = [] }
after_edit e (Some fault) s = s

abbrev pub fault_in : Edit → Replay → Option TiedFault
fault_in e s = tied_fault s.checked s.ties e

-- a packet adds its use, if it uses a flow
abbrev pub after_step : ℕ → FlowStep → Replay → Replay
after_step capacity (Steps.Edit e) s = after_edit e (fault_in e s) s
after_step capacity (Steps.Trace p) s =
    record s { uses = used (flow_use s.checked.config (table_of capacity s) p) s.uses }

abbrev pub edit_answer : Option TiedFault → FlowAnswer
edit_answer None = Edited
edit_answer (Some fault) = Refused fault

abbrev pub answer_to : ℕ → FlowStep → Replay → FlowAnswer
answer_to capacity (Steps.Edit e) s = edit_answer (fault_in e s)
answer_to capacity (Steps.Trace p) s = Traced (flow_outcome s.checked.config (table_of capacity s) p)

-- the answers to a list of steps, in order
unfoldable pub answers : ℕ → List FlowStep → Replay → List FlowAnswer
answers capacity [] s = []
answers capacity (x ∷ xs) s = answer_to capacity x s ∷ answers capacity xs (after_step capacity x s)

-- at the start nothing was used, and the ties are those of the opening configuration
abbrev pub at_start : Checked → Replay
at_start v = record { checked = v; ties = ties_of v; uses = [] }
