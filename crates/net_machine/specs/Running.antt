-- What holds of a network that runs.
use Rattle.std.specs.Prelude.{◌≡◌, List, IsTrue}
use Rattle.std.specs.List.{list_all}
use Rattle.config_check.specs.Checked.{Checked}
use Rattle.config_types.specs.Form.{has_event_form}
use Rattle.config_types.specs.declared.event.Event.{Event}
use Rattle.schedule_script.specs.Kept.{AreAlike, Kept, ties_in}
use Rattle.running_laws.specs.MachineLaws.Headline.{IsWritten}
use Rattle.running_nodes.specs.MachineModel.Setup.{checked}
use Rattle.running_nodes.specs.MachineModel.Setup.{opening as opening_setup}
use Rattle.running_nodes.specs.Seats.{Seat}
use Rattle.running_nodes.specs.Stands.{StandsFor}
use Rattle.machine_moment_laws.specs.Runs.{tied_moment}
use Rattle.net_machine.specs.declared.ends.SessionEnds.{SessionEnds}
use Rattle.net_machine.specs.Seating.{order_of}

-- a network that runs: it began with a valid configuration, and its events have the form that all have. Its ties and
-- its seats are those of the state after them, and the order of a round is that of its sessions
pub record IsRunning (opening : Checked) (events : List Event) (ties : Kept) (seats : List Seat)
    (order : List SessionEnds) : Type 0 where
  pub written : IsWritten (opening_setup opening)
  pub forms : IsTrue (list_all has_event_form events)
  pub tied : AreAlike (ties_in ties) (tied_moment opening events).ties
  pub stands : StandsFor seats (tied_moment opening events).network
  pub ordered : order ≡ order_of seats (tied_moment opening events).network.setup.topology
