-- What connecting makes of a network.
use Rattle.std.specs.Prelude.{◌≡◌, List, [], ◌∷◌, Bool, true, false, not, ◌&&◌}
use Rattle.ov_link.specs.declared.step.Input.TheVariants.{Opened}
use Rattle.running_nodes.specs.Seats.{Seat, live_at, seat}
use Rattle.running_nodes.specs.Steps.{Takes, cleared, with_seat}
use Rattle.running_nodes.specs.declared.place.SessionPlace.{SessionPlace}
use Rattle.net_machine.specs.declared.ends.SessionEnds.{SessionEnds}

-- where both ends are closed
abbrev pub may_connect : List Seat → SessionEnds → Bool
may_connect seats e = not (live_at seats e.near) && not (live_at seats e.far)

-- a node opens its end
pub record Opens (seats : List Seat) (p : SessionPlace) (after : List Seat) : Type 0 where
  pub node : Seat
  pub takes : Takes (seat seats p.node) node (Opened p.session)
  pub is : after ≡ with_seat p.node node seats

-- the far node opens its end, and then the sessions go down of which a node closed an end
pub record OpensFar (seats : List Seat) (e : SessionEnds) (after : List Seat) : Type 0 where
  pub opened : List Seat
  pub opens : Opens seats e.far opened
  pub is : after ≡ cleared (cleared opened e.near.node) e.far.node

-- whether the far end opens, once the near one did
abbrev pub goes_on : List Seat → SessionEnds → Bool
goes_on seats e = live_at seats e.near && not (live_at seats e.far)

abbrev pub OpensSecond : Bool → List Seat → SessionEnds → List Seat → Type 0
OpensSecond true seats e after = OpensFar seats e after
OpensSecond false seats e after = after ≡ cleared seats e.near.node

pub record ConnectsAt (seats : List Seat) (e : SessionEnds) (after : List Seat) : Type 0 where
  pub opened : List Seat
  pub first : Opens seats e.near opened
  pub second : OpensSecond (goes_on opened e) opened e after

abbrev pub ConnectsIf : Bool → List Seat → SessionEnds → List Seat → Type 0
ConnectsIf true seats e after = ConnectsAt seats e after
ConnectsIf false seats e after = after ≡ seats

abbrev pub Connects : List Seat → SessionEnds → List Seat → Type 0
Connects seats e after = ConnectsIf (may_connect seats e) seats e after

-- one session after the other
abbrev pub ConnectsAll : List SessionEnds → List Seat → List Seat → Type 0
ConnectsAll [] seats after = after ≡ seats
ConnectsAll (e ∷ es) seats after = (between : List Seat) × Connects seats e between × ConnectsAll es between after
