-- What an edit makes of the state for which seats stand.
use Rattle.std.specs.Prelude.{◌≡◌, List}
use Rattle.std.specs.declared.option.Option.TheVariants.{Some, None}
use Rattle.config_types.specs.declared.edit.Edit.{Edit}
use Rattle.schedule_script.specs.ConfigCheck.Checked.{Checked}
use Rattle.schedule_script.specs.ConfigCheck.Edits.{edit_fault, edited}
use Rattle.schedule_script.specs.ConfigCheck.EditFault.{EditFault}
use Rattle.schedule_script.specs.declared.answer.Answer.TheVariants.{Did, EditRefused}
use Rattle.machine_laws.specs.MachineModel.Network.{MachineState}
use Rattle.machine_laws.specs.MachineModel.Setup.{checked, moves}
use Rattle.machine_laws.specs.MachineModel.Events.{Edits, answer_to, next}
use Rattle.machine_laws.specs.MachineModel.Moments.{EditIsValid}
use Rattle.machine_laws.specs.Headline.{IsOfForm}
use Rattle.running_nodes.specs.Seats.{Seat}
use Rattle.running_nodes.specs.Steps.{Configures, cleared}
use Rattle.running_nodes.specs.Moving.{MovesIf}
use Rattle.running_nodes.specs.Stands.{StandsFor, message_size}
use Rattle.running_laws.specs.Moments.{IsMoment}

-- an edit is made: a compute node that it puts or deletes moves, then the configuration node has what is valid then, and
-- the sessions of which it closed its end go down
pub record MakesEdit (seats : List Seat) (x : Checked) (e : Edit) (after : List Seat) : Type 0 where
  pub moved : List Seat
  pub moves : MovesIf (edited e x).topology (moves e x.topology) seats moved
  pub configured : List Seat
  pub configures : Configures moved (edited e x) configured
  pub is : after ≡ cleared configured 0

-- an edit without a fault is made
abbrev pub EditsAreMade : Type 0
EditsAreMade =
    (seats : List Seat) (w : MachineState) → IsMoment w → StandsFor seats w → (e : Edit)
    → EditIsValid IsOfForm w (Edits e) → edit_fault (checked w.setup) e ≡ None
    → (after : List Seat) → MakesEdit seats (checked w.setup) e after
    → StandsFor after (next message_size w (Edits e)) × IsMoment (next message_size w (Edits e))
    × (answer_to w (Edits e) ≡ Did)

-- one with a fault changes nothing
abbrev pub FaultyEditsAreRefused : Type 0
FaultyEditsAreRefused =
    (w : MachineState) (e : Edit) (f : EditFault) → edit_fault (checked w.setup) e ≡ Some f
    → (next message_size w (Edits e) ≡ w) × (answer_to w (Edits e) ≡ EditRefused f)
