-- How the seats of a network and the sessions of its machine belong together.
use Rattle.std.specs.Prelude.{◌≡◌, ◌<◌, ℕ, List, [], map, length}
use Rattle.std.specs.declared.option.Option.TheVariants.{Some}
use Rattle.std.specs.Option.{unwrap_or}
use Rattle.node_model.specs.Maps.{Change}
use Rattle.node_model.specs.Step.{post}
use Rattle.machine_laws.specs.MachineModel.Setup.{Name, Setup}
use Rattle.machine_laws.specs.MachineModel.Session.{Carries, Session, is_peering, may_send}
use Rattle.machine_laws.specs.MachineModel.Network.{MachineState, view, views_of, wanted}
use Rattle.machine_laws.specs.MachineModel.Steps.{session_of}
use Rattle.machine_laws.specs.MachineModel.Events.{shown}
pub use Rattle.machine_laws.specs.MachineModel.Moments.{HasNumbers, HasSessions}
use Rattle.running_nodes.specs.Seats.{Seat, far_of, kind_of, name_of, other, others_of, place_of, role_of, seat, seat_named}
use Rattle.running_nodes.specs.Seats.{whos}
use Rattle.running_nodes.specs.Steps.{shown_by}
use Rattle.running_nodes.specs.Stands.{octets_of}
use Rattle.running_nodes.specs.declared.place.SessionPlace.{SessionPlace}

-- the seats are those of a setup's nodes
abbrev pub AreSeats : Setup → List Seat → Type 0
AreSeats x seats = map (λ (n : Seat). n.who) seats ≡ whos x

abbrev pub name_at : List Seat → SessionPlace → Name
name_at seats p = name_of (seat seats p.node).who

abbrev pub other_at : List Seat → SessionPlace → Name
other_at seats p = unwrap_or (other (seat seats p.node) p.session) []

-- a place that there is, with somebody at the other end
pub record IsPlace (seats : List Seat) (p : SessionPlace) : Type 0 where
  pub node : p.node < length seats
  pub session : p.session < length (others_of (seat seats p.node).who)
  pub somebody : other (seat seats p.node) p.session ≡ Some (other_at seats p)

-- each place has a far place, of which it is the far place
pub record HasFar (seats : List Seat) (p : SessionPlace) : Type 0 where
  pub far : SessionPlace
  pub found : far_of seats p ≡ Some far
  pub is_place : IsPlace seats far
  pub back : far_of seats far ≡ Some p
  pub name : name_at seats far ≡ other_at seats p
  pub other : other_at seats far ≡ name_at seats p

-- a place of two names is one that there is, of these names
pub record IsPlaceOf (seats : List Seat) (a b : Name) (p : SessionPlace) : Type 0 where
  pub is_place : IsPlace seats p
  pub name : name_at seats p ≡ a
  pub other : other_at seats p ≡ b

-- each place has a session, as its node sees it
pub record HasSession (seats : List Seat) (w : MachineState) (p : SessionPlace) : Type 0 where
  pub session : Session
  pub found : session_of w (name_at seats p) (other_at seats p) ≡ Some session
  pub near_name : session.near.name ≡ name_at seats p
  pub far_name : session.far.name ≡ other_at seats p
  pub near_role : session.near.role ≡ role_of (seat seats p.node).who
  pub far_role : (q : SessionPlace) → far_of seats p ≡ Some q → session.far.role ≡ role_of (seat seats q.node).who

-- a session among all has a place, by which it is found
pub record IsFound (seats : List Seat) (w : MachineState) (s : Session) : Type 0 where
  pub place : SessionPlace
  pub place_is : place_of seats s.near.name s.far.name ≡ Some place
  pub is_place : IsPlace seats place
  pub found : session_of w s.near.name s.far.name ≡ Some s

-- what the machine's node wants, may send and tells at a place is what the node at its seat does
pub record GoesBy (seats : List Seat) (w : MachineState) (p : SessionPlace) (s : Session) : Type 0 where
  pub wanted : wanted w.setup (views_of (name_at seats p) w.sessions) (view s)
      ≡ (kind_of (seat seats p.node).who).wanted (seat seats p.node).posts p.session
  pub may_send : may_send s
      ≡ (kind_of (seat seats p.node).who).may_send p.session (post (seat seats p.node).posts p.session).phase
  pub told : (c : Change)
      → octets_of (seat seats p.node).who (is_peering s) (Carries c)
      ≡ (kind_of (seat seats p.node).who).spelled p.session c

-- a name is that of a control node or of an agent exactly where a seat after the configuration node's has it, and that
-- seat shows what the machine's node does
pub record ShowsAt (seats : List Seat) (w : MachineState) (name : Name) (k : ℕ) : Type 0 where
  pub seat_is : seat_named seats name ≡ Some k
  pub above : 0 < k
  pub within : k < length seats
  pub shows : shown w name ≡ shown_by (seat seats k)
