-- The places of a network's sessions, and what each step keeps of them.
use Rattle.std.specs.Prelude.{◌≡◌, ◌<◌, ℕ, List, [], ◌∷◌, length, map, Bool, true, false, not, ◌&&◌, ◌==◌}
use Rattle.std.specs.Prelude.{if◌then◌else◌}
use Rattle.std.specs.declared.option.Option.{Option}
use Rattle.std.specs.declared.option.Option.TheVariants.{Some, None}
use Rattle.std.specs.Option.{option_map}
use Rattle.std.specs.List.{filter_map}
use Rattle.ov_types.specs.declared.rows.NodeId.{NodeId}
use Rattle.config_types.specs.declared.topology.Topology.{Topology}
use Rattle.config_check.specs.Checked.{Checked}
use Rattle.running_nodes.specs.MachineModel.Setup.{Name}
use Rattle.running_nodes.specs.MachineModel.Session.{Session, Controller}
use Rattle.running_nodes.specs.MachineModel.Network.{asked, between}
use Rattle.running_nodes.specs.Seats.{Configuring, Seat, far_of, link_at, name_of, notice_at, other, others_of}
use Rattle.running_nodes.specs.Seats.{place_of, seat, whole_at}
use Rattle.running_nodes.specs.Stands.{IsLong}
use Rattle.running_nodes.specs.declared.place.SessionPlace.{SessionPlace}
use Rattle.net_machine.specs.declared.ends.SessionEnds.{SessionEnds}

-- ---- places
-- a place that there is
pub record IsSeated (seats : List Seat) (p : SessionPlace) : Type 0 where
  pub node : p.node < length seats
  pub session : p.session < length (seat seats p.node).posts

-- somebody is at the other end of its session
abbrev pub HasOther : List Seat → SessionPlace → Type 0
HasOther seats p = (name : Name) × (other (seat seats p.node) p.session ≡ Some name)

pub record AreSeated (seats : List Seat) (e : SessionEnds) : Type 0 where
  pub near : IsSeated seats e.near
  pub far : IsSeated seats e.far
  pub near_other : HasOther seats e.near
  pub far_other : HasOther seats e.far

-- each node has an end, a link and room for a notice for each of its sessions
abbrev pub AreLong : List Seat → Type 0
AreLong seats = (k : ℕ) → k < length seats → IsLong (seat seats k)

-- the first node is the configuration node
pub record IsConfigured (seats : List Seat) : Type 0 where
  pub some : 0 < length seats
  pub setup : Checked
  pub is : (seat seats 0).who ≡ Configuring setup

-- what every event keeps in which no node moves: the nodes by their names, each with its sessions
pub record Keeps (seats after : List Seat) : Type 0 where
  pub count : length after ≡ length seats
  pub name : (k : ℕ) → name_of (seat after k).who ≡ name_of (seat seats k).who
  pub others : (k : ℕ) → others_of (seat after k).who ≡ others_of (seat seats k).who
  pub posts : (k : ℕ) → length (seat after k).posts ≡ length (seat seats k).posts
  pub long : AreLong after

-- ---- sessions, by their two ends
abbrev pub ends_from : SessionPlace → Option SessionPlace → Option SessionEnds
ends_from p far = option_map (λ (q : SessionPlace). record { near = p; far = q }) far

abbrev pub ends_at : List Seat → Option SessionPlace → Option SessionEnds
ends_at seats None = None
ends_at seats (Some p) = ends_from p (far_of seats p)

-- the session of two nodes, with the first one's end near
abbrev pub ends_of : List Seat → Name → Name → Option SessionEnds
ends_of seats a b = ends_at seats (place_of seats a b)

-- the sessions of a network, in the order of a round
abbrev pub order_among : List Seat → List Session → List SessionEnds
order_among seats sessions = filter_map (λ (s : Session). ends_of seats s.near.name s.far.name) sessions

-- the sessions of a control node with other control nodes
abbrev pub peerings_of : NodeId → List NodeId → List Session
peerings_of c others = map (λ (d : NodeId). between c.name Controller d.name Controller) others

abbrev pub order_of : List Seat → Topology → List SessionEnds
order_of seats t = order_among seats (asked t)

-- as the other end sees it
abbrev pub turned : SessionEnds → SessionEnds
turned e = record { near = e.far; far = e.near }

abbrev pub same_place : SessionPlace → SessionPlace → Bool
same_place p q = (p.node == q.node) && (p.session == q.session)

abbrev pub same_ends : SessionEnds → SessionEnds → Bool
same_ends d e = same_place d.near e.near && same_place d.far e.far

-- whether the near node of a session comes before the far one in the order of a round
abbrev pub is_earlier : List SessionEnds → SessionEnds → Bool
is_earlier [] e = true
is_earlier (d ∷ order) e =
    if same_ends d e then true else if same_ends d (turned e) then false else is_earlier order e

-- ---- what waits towards the near end: a notice counts as one
abbrev pub waiting : List Seat → SessionEnds → ℕ
waiting seats e = if notice_at seats e.near then 1 else length (link_at seats e.far)

-- a session is down where an end is not live, or a notice waits
abbrev pub is_down : List Seat → SessionEnds → Bool
is_down seats e = not (whole_at seats e.near && whole_at seats e.far)
