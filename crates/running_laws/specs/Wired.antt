-- What holds of seats and of the machine's sessions where the configuration is valid: the statements of the laws.
use Rattle.std.specs.Prelude.{◌≡◌, ◌↔◌, ◌<◌, ℕ, List, [], ◌∷◌, ◌++◌, map, length, true, false}
use Rattle.std.specs.declared.option.Option.TheVariants.{Some, None}
use Rattle.std.specs.List.{AllByRecursion, filter}
use Rattle.ov_types.specs.First.{same_name}
use Rattle.ov_types.specs.declared.rows.NodeId.{NodeId}
use Rattle.config_types.specs.declared.topology.Node.{Node}
use Rattle.config_types.specs.declared.topology.Topology.{Topology}
use Rattle.machine_laws.specs.MachineModel.Setup.{Name, Setup}
use Rattle.machine_laws.specs.MachineModel.Session.{Session}
use Rattle.machine_laws.specs.MachineModel.Network.{MachineState, config, lists}
use Rattle.machine_laws.specs.MachineModel.Steps.{session_of}
use Rattle.machine_laws.specs.MachineModel.Events.{forwarders, is_node}
use Rattle.machine_laws.specs.Headline.{IsWritten}
use Rattle.running_nodes.specs.Seats.{Seat, far_of, name_of, place_of, seat, seat_named}
use Rattle.running_nodes.specs.Stands.{Seats}
use Rattle.running_nodes.specs.Steps.{forwarders_of}
use Rattle.running_nodes.specs.declared.place.SessionPlace.{SessionPlace}
use Rattle.running_laws.specs.Wiring.{AreSeats, GoesBy, HasFar, HasNumbers, HasSession, HasSessions, IsFound, IsPlace}
use Rattle.running_laws.specs.Wiring.{IsPlaceOf, ShowsAt, name_at, other_at}

-- ---- places, among the seats of a valid configuration
abbrev pub WhereSeated : (List Seat → Type 0) → Type 0
WhereSeated P = (x : Setup) → IsWritten x → HasNumbers x → (seats : List Seat) → AreSeats x seats → P seats

-- each place is the one of its two names, and has a far place
abbrev pub PlacesAreNamed : List Seat → Type 0
PlacesAreNamed seats =
    (p : SessionPlace) → IsPlace seats p
    → HasFar seats p × (place_of seats (name_at seats p) (other_at seats p) ≡ Some p)

-- what is found by two names is a place of these names, whose far place is found by them the other way round
abbrev pub NamesAreOfPlaces : List Seat → Type 0
NamesAreOfPlaces seats =
    (a b : Name) (p : SessionPlace) → place_of seats a b ≡ Some p
    → IsPlaceOf seats a b p × (far_of seats p ≡ place_of seats b a)

-- ---- sessions, where they are those of the topology
abbrev pub WhereJoined : (List Seat → MachineState → Type 0) → Type 0
WhereJoined P =
    (w : MachineState) → IsWritten w.setup → HasNumbers w.setup → (seats : List Seat) → AreSeats w.setup seats
    → HasSessions w → P seats w

-- each place has its session, and each session its place
abbrev pub PlacesHaveSessions : List Seat → MachineState → Type 0
PlacesHaveSessions seats w = (p : SessionPlace) → IsPlace seats p → HasSession seats w p

abbrev pub SessionsHavePlaces : List Seat → MachineState → Type 0
SessionsHavePlaces seats w = AllByRecursion (IsFound seats w) w.sessions

-- two nodes have a session exactly where they have a place
abbrev pub NoneIsWhereNoneIs : List Seat → MachineState → Type 0
NoneIsWhereNoneIs seats w = (a b : Name) → (place_of seats a b ≡ None) ↔ (session_of w a b ≡ None)

-- no session joins a node to itself
abbrev pub JoinsTwo : Session → Type 0
JoinsTwo s = (same_name s.near.name s.far.name ≡ false) × (same_name s.far.name s.near.name ≡ false)

-- ---- what nodes go by, where each end is as its seat has it
abbrev pub WhereSeatsAre : (List Seat → MachineState → Type 0) → Type 0
WhereSeatsAre P =
    (w : MachineState) → IsWritten w.setup → HasNumbers w.setup → (seats : List Seat) → Seats seats w → HasSessions w
    → P seats w

abbrev pub NodesGoBySeats : List Seat → MachineState → Type 0
NodesGoBySeats seats w =
    (p : SessionPlace) → IsPlace seats p
    → (s : Session) → session_of w (name_at seats p) (other_at seats p) ≡ Some s → GoesBy seats w p s

abbrev pub NodesAreSeats : List Seat → MachineState → Type 0
NodesAreSeats seats w = (name : Name) → is_node w name ≡ true → (k : ℕ) × ShowsAt seats w name k

abbrev pub SeatsAreNodes : List Seat → MachineState → Type 0
SeatsAreNodes seats w = (k : ℕ) → 0 < k → k < length seats → is_node w (name_of (seat seats k).who) ≡ true

abbrev pub NoOtherIsSeated : List Seat → MachineState → Type 0
NoOtherIsSeated seats w = (name : Name) → is_node w name ≡ false → (k : ℕ) → seat_named seats name ≡ Some k → k ≡ 0

abbrev pub ForwardsAlike : List Seat → MachineState → Type 0
ForwardsAlike seats w = forwarders w ≡ forwarders_of seats

-- ---- the order of a round, by the names of the two nodes of each session
abbrev pub NamePair : Type 0
NamePair = Name × Name

abbrev pub names_of : Session → NamePair
names_of s = (s.near.name, s.far.name)

abbrev pub feed_pair : NodeId → NamePair
feed_pair c = (config, c.name)

abbrev pub peer_pair : NodeId → NodeId → NamePair
peer_pair c d = (c.name, d.name)

abbrev pub access_pair : Node → NodeId → NamePair
access_pair n c = (c.name, n.name)

-- the feeds of all control nodes
abbrev pub feed_pairs : List NodeId → List NamePair
feed_pairs cs = map feed_pair cs

-- each control node with each one after it
abbrev pub peer_pairs : List NodeId → List NamePair
peer_pairs [] = []
peer_pairs (c ∷ cs) = map (peer_pair c) cs ++ peer_pairs cs

-- each agent's, with the control nodes that it lists in the order of the topology
abbrev pub access_pairs : List NodeId → List Node → List NamePair
access_pairs cs [] = []
access_pairs cs (n ∷ ns) = map (access_pair n) (filter (lists n) cs) ++ access_pairs cs ns

abbrev pub pairs : Topology → List NamePair
pairs t = (feed_pairs t.controllers ++ peer_pairs t.controllers) ++ access_pairs t.controllers t.nodes

abbrev pub SessionsAreInOrder : Type 0
SessionsAreInOrder = (w : MachineState) → HasSessions w → map names_of w.sessions ≡ pairs w.setup.topology

-- the two nodes of a pair have a place
abbrev pub HasPlace : List Seat → NamePair → Type 0
HasPlace seats q = (p : SessionPlace) × (place_of seats q.0 q.1 ≡ Some p)

abbrev pub PairsArePlaces : Type 0
PairsArePlaces =
    (x : Setup) → IsWritten x → HasNumbers x → (seats : List Seat) → AreSeats x seats
    → AllByRecursion (HasPlace seats) (pairs x.topology)
