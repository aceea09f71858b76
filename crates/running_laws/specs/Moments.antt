-- A moment of a schedule that begins with a valid configuration of the written form.
use Rattle.std.specs.Prelude.{◌≡◌, List, [], ◌∷◌, map}
use Rattle.std.specs.declared.option.Option.{Option}
use Rattle.std.specs.declared.option.Option.TheVariants.{Some, None}
use Rattle.schedule_script.specs.ConfigCheck.Checked.{Checked}
use Rattle.machine_laws.specs.MachineModel.Network.{MachineState, start}
use Rattle.machine_laws.specs.MachineModel.Steps.{without_breaks}
use Rattle.machine_laws.specs.MachineModel.Events.{MachineEvent, next}
use Rattle.machine_laws.specs.MachineModel.Moments.{EditIsValid}
use Rattle.machine_laws.specs.MachineModel.Setup.{opening as opening_setup}
use Rattle.machine_laws.specs.Headline.{IsOfForm, IsWritten}
use Rattle.running_nodes.specs.Stands.{message_size}

-- no send is to fail
abbrev pub unbroken : MachineState → MachineState
unbroken w = record { setup = w.setup; sessions = map without_breaks w.sessions }

-- an event, or that the breaks are removed that were not met, as settling begins
abbrev pub moved : MachineState → Option MachineEvent → MachineState
moved w None = unbroken w
moved w (Some e) = next message_size w e

abbrev pub after_moves : MachineState → List (Option MachineEvent) → MachineState
after_moves w [] = w
after_moves w (m ∷ moves) = after_moves (moved w m) moves

abbrev pub IsValidMove : MachineState → Option MachineEvent → Type 0
IsValidMove w None = Unit {0}
IsValidMove w (Some e) = EditIsValid IsOfForm w e

abbrev pub AreValidMoves : MachineState → List (Option MachineEvent) → Type 0
AreValidMoves w [] = Unit {0}
AreValidMoves w (m ∷ moves) = IsValidMove w m × AreValidMoves (moved w m) moves

pub record IsMoment (w : MachineState) : Type 0 where
  pub opening : Checked
  pub written : IsWritten (opening_setup opening)
  pub moves : List (Option MachineEvent)
  pub edits : AreValidMoves (start opening) moves
  pub is : w ≡ after_moves (start opening) moves
