-- What the seats of a network are where a compute node comes, goes, or lists other control nodes than before.
use Rattle.std.specs.Prelude.{◌≡◌, ℕ, ◌+◌, List, [], ◌∷◌, ◌++◌, length, map, Bool, false, ◌&&◌, if◌then◌else◌}
use Rattle.std.specs.declared.option.Option.{Option}
use Rattle.std.specs.declared.option.Option.TheVariants.{Some, None}
use Rattle.std.specs.List.{filter, list_any, slice_set}
use Rattle.ov_types.specs.First.{same_name}
use Rattle.ov_types.specs.declared.rows.NodeId.{NodeId}
use Rattle.config_types.specs.declared.topology.Node.{Node}
use Rattle.config_types.specs.declared.topology.Topology.{Topology}
use Rattle.control_node.specs.Agents.{put_at}
use Rattle.agent_node.specs.NodeModel.Step.{nothing}
use Rattle.config_node.specs.MachineModel.Setup.{Move, Name, id_of, is_listed, with_agent, without_agent}
use Rattle.config_node.specs.MachineModel.Session.{Role, Agent}
use Rattle.config_node.specs.MachineModel.Network.{same_role}
use Rattle.running_nodes.specs.Controls.{Controls, first_agent}
use Rattle.running_nodes.specs.Seats.{Who, Configuring, Controlling, Forwarding, Seat, agent_plan, name_of, role_of, seat}
use Rattle.running_nodes.specs.Seats.{seat_named, session_with}
use Rattle.running_nodes.specs.Steps.{Passes, cleared, fresh_seat, with_seat}

-- ---- an agent goes from a control node, which tells nobody yet
-- there is nothing at an end any more
abbrev pub vacated_at : ℕ → Seat → Seat
vacated_at i n = record n {
  posts = slice_set n.posts i nothing;
  kept = slice_set n.kept i [];
  links = slice_set n.links i [];
  breaks = slice_set n.breaks i [];
  notices = slice_set n.notices i false;
}

abbrev pub vacated_from : Option ℕ → Seat → Seat
vacated_from None n = n
vacated_from (Some i) n = vacated_at i n

-- the agent's number is retired
abbrev pub retired_of : Name → Who → Who
retired_of name (Controlling c) = Controlling (record c { agents = without_agent name c.agents })
retired_of name who = who

abbrev pub vacated : Name → Seat → Seat
vacated name n = record (vacated_from (session_with n name) n) { who = retired_of name n.who }

-- ---- its own seat
-- a seat is that of the agent of this name
abbrev pub is_agent_named : Name → Seat → Bool
is_agent_named name n = same_role Agent (role_of n.who) && same_name (name_of n.who) name

-- the agent's seat is taken away, and others stand in its place, or behind all where there was none
abbrev pub reseated : Name → List Seat → List Seat → List Seat
reseated name new [] = new
reseated name new (n ∷ seats) = if is_agent_named name n then new ++ seats else n ∷ reseated name new seats

-- an empty agent
abbrev pub seats_of : Topology → Option Node → List Seat
seats_of t None = []
seats_of t (Some n) = fresh_seat (Forwarding (agent_plan t n)) ∷ []

-- ---- an agent comes to a control node
-- the number of its session: the least that is retired, or the next one where none is
abbrev pub number_in : List (Option NodeId) → ℕ
number_in [] = 0
number_in (None ∷ agents) = 0
number_in (Some a ∷ agents) = 1 + number_in agents

abbrev pub number_for : Controls → ℕ
number_for c = first_agent c + number_in c.agents

-- the control node with the agent, whose session is down, with nothing at its end
abbrev pub joined_at : Controls → NodeId → Seat → Seat
joined_at c a n = record {
  who = Controlling (record c { agents = with_agent a c.agents });
  posts = put_at n.posts (number_for c) nothing;
  kept = put_at n.kept (number_for c) [];
  links = put_at n.links (number_for c) [];
  breaks = put_at n.breaks (number_for c) [];
  notices = put_at n.notices (number_for c) false;
}

abbrev pub joined_by : Who → NodeId → Seat → Seat
joined_by (Controlling c) a n = joined_at c a n
joined_by who a n = n

abbrev pub joined : NodeId → Seat → Seat
joined a n = joined_by n.who a n

-- a control node that the compute node lists
abbrev pub is_listed_who : Node → Who → Bool
is_listed_who n (Controlling c) = is_listed c.me.name n
is_listed_who n who = false

-- it comes to a control node, where it lists it
abbrev pub came_to : Option Node → Seat → Seat
came_to None s = s
came_to (Some n) s = if is_listed_who n s.who then joined (id_of n) s else s

-- ---- an agent goes from a control node and comes to it, and nothing else changes
abbrev pub resettled_by : Who → Name → Option Node → Seat → Seat
resettled_by (Controlling c) name now n = came_to now (vacated name n)
resettled_by who name now n = n

abbrev pub resettled_at : Name → Option Node → Seat → Seat
resettled_at name now n = resettled_by n.who name now n

-- ---- passes
-- the node of a seat makes its pass, and then the sessions go down of which it closed its end
abbrev pub PassesAt : Option ℕ → List Seat → List Seat → Type 0
PassesAt None seats after = after ≡ seats
PassesAt (Some k) seats after =
    (node : Seat) × Passes (seat seats k) node × (after ≡ cleared (with_seat k node seats) k)

-- the nodes of some seats make their passes, in their order
abbrev pub PassesAll : List Name → List Seat → List Seat → Type 0
PassesAll [] seats after = after ≡ seats
PassesAll (c ∷ cs) seats after =
    (between : List Seat) × PassesAt (seat_named seats c) seats between × PassesAll cs between after

-- ---- all of it
-- in a topology: its seat is another, it goes from all control nodes, and it comes to those that it lists
abbrev pub before_passes : Topology → Move → List Seat → List Seat
before_passes t m seats = map (resettled_at m.name m.now) (reseated m.name (seats_of t m.now) seats)

-- a node moves: what `before_passes` says, and then the control nodes that it listed make their passes
abbrev pub Moves : Topology → Move → List Seat → List Seat → Type 0
Moves t m seats after = PassesAll m.left (before_passes t m seats) after

abbrev pub MovesIf : Topology → Option Move → List Seat → List Seat → Type 0
MovesIf t None seats after = after ≡ seats
MovesIf t (Some m) seats after = Moves t m seats after
