-- What is asked of a place in a network, and what the session there says of it.
use Rattle.std.specs.Prelude.{◌≡◌, ℕ, List, [], length, Bool, false, not, ◌&&◌, ◌==◌, if◌then◌else◌}
use Rattle.std.specs.declared.option.Option.TheVariants.{Some, None}
use Rattle.machine_laws.specs.MachineModel.Setup.{Name}
use Rattle.machine_laws.specs.MachineModel.Session.{Session, is_live, is_up, turned, waiting}
use Rattle.machine_laws.specs.MachineModel.Network.{MachineState}
use Rattle.machine_laws.specs.MachineModel.Steps.{is_rested, may_connect, session_of}
use Rattle.running_nodes.specs.Seats.{Seat, far_of, is_down_at, link_at, live_at, notice_at, place_of, up_at}
use Rattle.running_nodes.specs.Stands.{StandsFor}
use Rattle.running_nodes.specs.declared.place.SessionPlace.{SessionPlace}
use Rattle.running_laws.specs.Moments.{IsMoment}

-- how many messages and notices wait to be taken at a place: those that left the far one, or a notice
abbrev pub waiting_at : List Seat → SessionPlace → SessionPlace → ℕ
waiting_at seats p far = if notice_at seats p then 1 else length (link_at seats far)

abbrev pub may_connect_at : List Seat → SessionPlace → SessionPlace → Bool
may_connect_at seats p far = is_down_at seats p && (not (notice_at seats p) && not (notice_at seats far))

abbrev pub is_rested_at : List Seat → SessionPlace → SessionPlace → Bool
is_rested_at seats p far =
    up_at seats p && up_at seats far && (waiting_at seats p far == 0) && (waiting_at seats far p == 0)

-- the session at a place, as its node sees it
pub record SaysAt (seats : List Seat) (p far : SessionPlace) (s : Session) : Type 0 where
  pub live : live_at seats p ≡ is_live s.near
  pub up : up_at seats p ≡ is_up s.near
  pub notice : notice_at seats p ≡ s.near.notice
  pub sent : length (link_at seats p) ≡ length s.near.flight
  pub down : is_down_at seats p ≡ s.is_down
  pub waiting : waiting_at seats p far ≡ waiting s
  pub may_connect : may_connect_at seats p far ≡ may_connect s
  pub is_rested : is_rested_at seats p far ≡ is_rested s

-- a place by the names of its node and of the other end, with that end
abbrev pub AreAt : List Seat → Name → Name → SessionPlace → SessionPlace → Type 0
AreAt seats a b p far = (place_of seats a b ≡ Some p) × (far_of seats p ≡ Some far)

-- at each place stands the session of its two nodes, and both of its ends say what it is
abbrev pub PlacesSayWhatSessionsAre : Type 0
PlacesSayWhatSessionsAre =
    (seats : List Seat) (w : MachineState) → IsMoment w → StandsFor seats w → (a b : Name) (p far : SessionPlace)
    → AreAt seats a b p far
    → (s : Session) × (session_of w a b ≡ Some s) × SaysAt seats p far s × SaysAt seats far p (turned s)

-- where there is no place there is no session
abbrev pub NoPlaceIsNoSession : Type 0
NoPlaceIsNoSession =
    (seats : List Seat) (w : MachineState) → IsMoment w → StandsFor seats w → (a b : Name)
    → place_of seats a b ≡ None → session_of w a b ≡ None

-- at an end that is not live no notice waits, and nothing is in flight on its session
abbrev pub NothingWaitsAtClosedEnds : Type 0
NothingWaitsAtClosedEnds =
    (seats : List Seat) (w : MachineState) → IsMoment w → StandsFor seats w → (a b : Name) (p far : SessionPlace)
    → AreAt seats a b p far → live_at seats p ≡ false
    → (notice_at seats p ≡ false) × (link_at seats far ≡ []) × (link_at seats p ≡ [])

-- a session may be connected exactly where neither end is live
abbrev pub ClosedSessionsMayConnect : Type 0
ClosedSessionsMayConnect =
    (seats : List Seat) (w : MachineState) → IsMoment w → StandsFor seats w → (a b : Name) (p far : SessionPlace)
    → AreAt seats a b p far → may_connect_at seats p far ≡ (not (live_at seats p) && not (live_at seats far))
