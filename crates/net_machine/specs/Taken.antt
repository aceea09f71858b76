-- A network that took events.
use Rattle.std.specs.Prelude.{◌≡◌, List, false}
use Rattle.config_check.specs.Checked.{Checked}
use Rattle.config_types.specs.declared.event.Event.{Event}
use Rattle.schedule_script.specs.Kept.{AreAlike, ties_in}
use Rattle.running_nodes.specs.Stands.{StandsFor}
use Rattle.machine_moment_laws.specs.Runs.{tied_moment}
use Rattle.net_machine.specs.NetState.{NetState}

-- a network with this opening configuration took these events, and is in the state that they lead to, with its ties
pub record HasTaken (x : Checked) (es : List Event) (n : NetState) : Type 0 where
  pub opening : n.opening ≡ x
  pub events : n.events ≡ es
  pub works : n.failed ≡ false
  pub state : StandsFor n.seats (tied_moment n.opening n.events).network
  pub ties : AreAlike (ties_in n.ties) (tied_moment n.opening n.events).ties
