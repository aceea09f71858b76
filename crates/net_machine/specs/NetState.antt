-- What is seen of a network that runs.
use Rattle.std.specs.Prelude.{List, Bool}
use Rattle.config_check.specs.Checked.{Checked}
use Rattle.config_types.specs.declared.event.Event.{Event}
use Rattle.schedule_script.specs.Kept.{Kept}
use Rattle.running_nodes.specs.Seats.{Seat}

-- the configuration that it began with, the ties of its configurations so far, the events that it took, its nodes with
-- what is in flight between them, and whether memory was wanting in an event
pub record NetState : Type 0 where
  pub opening : Checked
  pub ties : Kept
  pub events : List Event
  pub seats : List Seat
  pub failed : Bool
