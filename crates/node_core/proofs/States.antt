-- The state of a session of items, and the phase of its end.
use Rattle.std.specs.Prelude.{◌≡◌, refl}
use Rattle.item_wire.specs.Happenings.{next_state}
use Rattle.item_wire.specs.declared.event.ItemState.{ItemState}
use Rattle.item_wire.specs.declared.event.ItemState.TheVariants as State
use Rattle.item_wire.specs.declared.input.Came.TheVariants.{Closed}
use Rattle.node_model.specs.Step.{Idle}
use Rattle.node_core.specs.Beginning.{phase_of, state_at}

pub idle_state : (state : ItemState) → phase_of state ≡ Idle → state ≡ State.Idle
idle_state State.Idle e = refl
idle_state State.Opened e = cc
idle_state State.Up e = cc

pub state_again : (state : ItemState) → state_at (phase_of state) ≡ state
state_again State.Idle = refl
state_again State.Opened = refl
state_again State.Up = refl

pub closes : (state : ItemState) → next_state state Closed ≡ State.Idle
closes State.Idle = refl
closes State.Opened = refl
closes State.Up = refl
