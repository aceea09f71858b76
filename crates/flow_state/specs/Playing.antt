-- A replay with its table kept beside what is configured.
use Rattle.std.specs.Prelude.{◌≡◌, ℕ, List, [], ◌∷◌, Option, Some, None}
use Rattle.config_types.specs.declared.edit.Edit.{Edit}
use Rattle.config_check.specs.Checked.{Checked}
use Rattle.config_check.specs.Edits.{edited}
use Rattle.schedule_script.specs.Kept.{Kept, ties_in}
use Rattle.schedule_script.specs.Ties.{Ties}
use Rattle.schedule_script.specs.Tied.{tied_fault}
use Rattle.schedule_script.specs.Tying.{joined, ties_of}
use Rattle.schedule_script.specs.declared.edits.TiedFault.{TiedFault}
use Rattle.flow_state.specs.declared.step.FlowStep.{FlowStep}
use Rattle.flow_state.specs.declared.step.FlowStep.TheVariants as Steps
use Rattle.flow_state.specs.declared.flow.Flow.{Flow}
use Rattle.flow_state.specs.Recent.{after_use, recent}
use Rattle.flow_state.specs.Flows.{flow_outcome, flow_use}
use Rattle.flow_state.specs.Replay.{Replay, edit_answer}
use Rattle.flow_state.specs.declared.answer.FlowAnswer.{FlowAnswer}
use Rattle.flow_state.specs.declared.answer.FlowAnswer.TheVariants.{Traced}

pub record Playing : Type 0 where
  pub checked : Checked
  pub ties : Ties
  pub capacity : ℕ
  pub flows : List Flow

abbrev pub fault_in : Edit → Playing → Option TiedFault
fault_in e s = tied_fault s.checked s.ties e

abbrev pub played_edit : Edit → Option TiedFault → Playing → Playing
played_edit e None s = record {
  checked = edited e s.checked;
  ties = joined s.ties (edited e s.checked);
  capacity = s.capacity;
  flows = [];
}
played_edit e (Some fault) s = s

abbrev pub played : FlowStep → Playing → Playing
played (Steps.Edit e) s = played_edit e (fault_in e s) s
played (Steps.Trace p) s = record {
  checked = s.checked;
  ties = s.ties;
  capacity = s.capacity;
  flows = after_use s.capacity (flow_use s.checked.config s.flows p) s.flows;
}

abbrev pub answer_in : FlowStep → Playing → FlowAnswer
answer_in (Steps.Edit e) s = edit_answer (fault_in e s)
answer_in (Steps.Trace p) s = Traced (flow_outcome s.checked.config s.flows p)

abbrev pub answers_in : List FlowStep → Playing → List FlowAnswer
answers_in [] s = []
answers_in (x ∷ xs) s = answer_in x s ∷ answers_in xs (played x s)

-- what is held of a replay: its ties as the entries that are kept of them
pub record Held : Type 0 where
  pub checked : Checked
  pub kept : Kept
  pub capacity : ℕ
  pub flows : List Flow

abbrev pub playing : Held → Playing
playing h = record { checked = h.checked; ties = ties_in h.kept; capacity = h.capacity; flows = h.flows }

-- an empty table beside the opening configuration
abbrev pub opening : ℕ → Checked → Playing
opening capacity v = record { checked = v; ties = ties_of v; capacity = capacity; flows = [] }

-- what is kept is what the steps left
pub record Follows (s : Playing) (r : Replay) : Type 0 where
  pub checked : s.checked ≡ r.checked
  pub ties : s.ties ≡ r.ties
  pub flows : s.flows ≡ recent s.capacity r.uses
