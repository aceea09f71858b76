-- Which state of the machine the seats of a network stand for.
use Rattle.std.specs.Prelude.{◌≡◌, ◌<◌, ℕ, List, [], ◌∷◌, map, length, take, Bool, true, false, not, ◌&&◌}
use Rattle.std.specs.declared.option.Option.TheVariants.{Some, None}
use Rattle.std.specs.List.{AllByRecursion}
use Rattle.bgp_wire.specs.Content.{KeepsAlive}
use Rattle.bgp_wire.specs.Spelling as wire
use Rattle.agent_node.specs.ItemWire.Records as record_of
use Rattle.agent_node.specs.ItemWire.Item.TheVariants.{Hello as HelloItem}
use Rattle.ov_sync.specs.declared.Delta.TheVariants.{Put, Drop}
use Rattle.config_node.specs.ConfigCheck.Checked.{Checked}
use Rattle.config_types.specs.declared.event.Event.{Event as Written}
use Rattle.agent_node.specs.NodeCore.Told as items
use Rattle.agent_node.specs.NodeModel.Keys.{Vpn}
use Rattle.agent_node.specs.NodeModel.Maps.{Change}
use Rattle.agent_node.specs.NodeModel.Step.{nothing, post}
use Rattle.control_node.specs.NodeRoutes.Hearing.{open_octets}
use Rattle.control_node.specs.NodeRoutes.Told as routes
use Rattle.config_node.specs.MachineModel.Setup.{Name}
use Rattle.config_node.specs.MachineModel.Session.{Message, Open, Keepalive, Hello, Carries, SessionEnd, Session, is_live, is_peering}
use Rattle.config_node.specs.MachineModel.Network.{MachineState, start}
use Rattle.config_node.specs.MachineModel.Steps.{session_of}
use Rattle.config_node.specs.MachineModel.Events.{after, event_of}
use Rattle.running_nodes.specs.Seats.{Who, Controlling, Seat, whos, name_of, others_of}
use Rattle.running_nodes.specs.Seats.{breaks_in, far_of, kept_at, kept_in, link, link_at, notice, notice_at, other, seat, taken_in}
use Rattle.running_nodes.specs.declared.place.SessionPlace.{SessionPlace}

-- ---- the octets of a message on a link
-- the OPEN of a control node
abbrev pub open_of : Who → List ℕ
open_of (Controlling c) = open_octets c.asn c.me.address
open_of _ = []

abbrev pub octets_of : Who → Bool → Message → List ℕ
octets_of who true Open = open_of who
octets_of who true Keepalive = wire.spelling KeepsAlive
octets_of who true (Carries c) = routes.spelled c
octets_of who true Hello = []
octets_of who false Hello = record_of.spelling (HelloItem (name_of who))
octets_of who false (Carries c) = items.spelled c
octets_of who false _ = []

-- ---- how many octets a message has, by the name of its sender
-- every message has an octet: what has no spelling counts as one
abbrev pub at_least_one : List ℕ → ℕ
at_least_one [] = 1
at_least_one octets = length octets

-- a change of a route is an UPDATE, and each other a record
abbrev pub carried_octets : Change → List ℕ
carried_octets (Put (Vpn k) v) = routes.spelled (Put (Vpn k) v)
carried_octets (Drop (Vpn k)) = routes.spelled (Drop (Vpn k))
carried_octets c = items.spelled c

-- an OPEN has 43 octets: the header's 19, ten, and one parameter with both capabilities
abbrev pub message_size : Name → Message → ℕ
message_size name Open = 43
message_size name Keepalive = 19
message_size name Hello = at_least_one (record_of.spelling (HelloItem name))
message_size name (Carries c) = at_least_one (carried_octets c)

-- ---- one end
-- a session's near end is this seat's end of the session: how far it is, what it sent and holds, whether a notice
-- waits, what is in flight, message by message, and which sends are to fail. Of the first message that the other end
-- sent as many octets were taken as are kept here; none where a notice waits
pub record IsEnd (n : Seat) (i : ℕ) (s : Session) : Type 0 where
  pub phase : s.near.phase ≡ (post n.posts i).phase
  pub sent : s.near.sent ≡ (post n.posts i).sent
  pub held : s.near.held ≡ (post n.posts i).held
  pub notice : s.near.notice ≡ notice n i
  pub flight : link n i ≡ map (octets_of n.who (is_peering s)) s.near.flight
  pub breaks : s.near.breaks ≡ breaks_in n i
  pub taken : s.far.taken ≡ taken_in n i

-- an end of a seat stands among the sessions of the network, with the node of this name at its other end
pub record HasEnd (w : MachineState) (n : Seat) (i : ℕ) (b : Name) : Type 0 where
  pub session : Session
  pub found : session_of w (name_of n.who) b ≡ Some session
  pub is : IsEnd n i session

-- an end of a session that is nobody's: there is nothing at it
pub record IsVacant (n : Seat) (i : ℕ) : Type 0 where
  pub post : post n.posts i ≡ nothing
  pub kept : kept_in n i ≡ []
  pub link : link n i ≡ []
  pub breaks : breaks_in n i ≡ []
  pub notice : notice n i ≡ false

pub record IsLong (n : Seat) : Type 0 where
  pub posts : length n.posts ≡ length (others_of n.who)
  pub kept : length n.kept ≡ length (others_of n.who)
  pub links : length n.links ≡ length (others_of n.who)
  pub breaks : length n.breaks ≡ length (others_of n.who)
  pub notices : length n.notices ≡ length (others_of n.who)

-- ---- all of them
abbrev pub is_whole_end : SessionEnd → Bool
is_whole_end e = is_live e && not e.notice

-- a session is down where an end is not live, or a notice waits
abbrev pub IsDownWhere : Session → Type 0
IsDownWhere s = s.is_down ≡ not (is_whole_end s.near && is_whole_end s.far)

-- the first of these messages, where there is one
abbrev pub first_of : List (List ℕ) → List ℕ
first_of [] = []
first_of (octets ∷ messages) = octets

-- what is kept at an end is a first part of the first message in flight to it, where no notice waits
abbrev pub KeepsPart : List Seat → SessionPlace → Type 0
KeepsPart seats p =
    (far : SessionPlace) → far_of seats p ≡ Some far → notice_at seats p ≡ false
    → kept_at seats p ≡ take (length (kept_at seats p)) (first_of (link_at seats far))

-- some seats are those of the network's nodes, and each end is as its seat has it
pub record Seats (seats : List Seat) (w : MachineState) : Type 0 where
  pub who : map (λ (n : Seat). n.who) seats ≡ whos w.setup
  pub long : (k : ℕ) → k < length seats → IsLong (seat seats k)
  pub ends : (k i : ℕ) → k < length seats → i < length (seat seats k).posts
      → (b : Name) → other (seat seats k) i ≡ Some b → HasEnd w (seat seats k) i b
  pub vacant : (k i : ℕ) → k < length seats → i < length (seat seats k).posts
      → other (seat seats k) i ≡ None → IsVacant (seat seats k) i
  pub parts : (k i : ℕ) → k < length seats → i < length (seat seats k).posts
      → KeepsPart seats (record { node = k; session = i })

pub record StandsFor (seats : List Seat) (w : MachineState) : Type 0 where
  pub seats_are : Seats seats w
  pub down : AllByRecursion IsDownWhere w.sessions

-- ---- the state after the events of a schedule, from the empty state with an opening configuration
abbrev pub moment : Checked → List Written → MachineState
moment opening events = after message_size (start opening) (map event_of events)
