-- What a connection makes of the state for which seats stand.
use Rattle.std.specs.Prelude.{◌≡◌, Bool, List, true, false}
use Rattle.std.specs.List.{AllByRecursion}
use Rattle.ov_link.specs.declared.step.Input.TheVariants.{Opened}
use Rattle.machine_laws.specs.MachineModel.Setup.{Name}
use Rattle.machine_laws.specs.MachineModel.Network.{MachineState}
use Rattle.machine_laws.specs.MachineModel.Steps.{connect_if}
use Rattle.machine_laws.specs.MachineModel.Events.{is_earlier}
use Rattle.running_nodes.specs.Seats.{Seat, live_at, seat}
use Rattle.running_nodes.specs.Steps.{Takes, cleared, with_seat}
use Rattle.running_nodes.specs.Stands.{StandsFor}
use Rattle.running_nodes.specs.declared.place.SessionPlace.{SessionPlace}
use Rattle.running_laws.specs.Moments.{IsMoment}
use Rattle.running_laws.specs.Asking.{AreAt, may_connect_at}

-- the far end opens behind the near one, where that is still live. The sessions of which their nodes closed an end go
-- down
abbrev pub OpensBehind : Bool → List Seat → SessionPlace → SessionPlace → List Seat → Type 0
OpensBehind true opened p far after =
    (far_node : Seat) × Takes (seat opened far.node) far_node (Opened far.session)
    × (after ≡ cleared (cleared (with_seat far.node far_node opened) p.node) far.node)
OpensBehind false opened p far after = after ≡ cleared opened p.node

-- one end opens, and then the other
pub record OpensBoth (seats : List Seat) (p far : SessionPlace) (after : List Seat) : Type 0 where
  pub near_node : Seat
  pub near_takes : Takes (seat seats p.node) near_node (Opened p.session)
  pub behind : OpensBehind (live_at (with_seat p.node near_node seats) p) (with_seat p.node near_node seats) p far after

-- the first node opens before the second
abbrev pub ConnectionsAreMade : Type 0
ConnectionsAreMade =
    (seats : List Seat) (w : MachineState) → IsMoment w → StandsFor seats w → (a b : Name) (p far : SessionPlace)
    → AreAt seats a b p far → may_connect_at seats p far ≡ true → (after : List Seat) → OpensBoth seats p far after
    → StandsFor after (connect_if a b w)

-- where the session may not connect
abbrev pub NothingIsConnected : Type 0
NothingIsConnected =
    (seats : List Seat) (w : MachineState) → IsMoment w → StandsFor seats w → (a b : Name) (p far : SessionPlace)
    → AreAt seats a b p far → may_connect_at seats p far ≡ false → connect_if a b w ≡ w

-- a connection from the earlier node of a session to the later one is an event
abbrev pub EarlierConnectionsAreEvents : Type 0
EarlierConnectionsAreEvents =
    (w : MachineState) → IsMoment w → (a b : Name) → is_earlier w.sessions a b ≡ true → IsMoment (connect_if a b w)

-- the near node of each session is the earlier one
abbrev pub NearIsEarlier : Type 0
NearIsEarlier =
    (w : MachineState) → IsMoment w
    → AllByRecursion (λ s. is_earlier w.sessions s.near.name s.far.name ≡ true) w.sessions
