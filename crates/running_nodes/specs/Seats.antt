-- The seats of a network: each node, with its links and with the notices of loss that wait at its ends.
use Rattle.std.specs.Prelude.{ℕ, suc, ◌+◌, List, [], ◌∷◌, ◌++◌, length, map, Bool, false, not, ◌&&◌}
use Rattle.std.specs.Prelude.{find, option_and_then, if◌then◌else◌}
use Rattle.std.specs.declared.option.Option.{Option}
use Rattle.std.specs.declared.option.Option.TheVariants.{Some, None}
use Rattle.std.specs.Option.{option_map, unwrap_or}
use Rattle.std.specs.List.{filter, slice_index_or}
use Rattle.ov_types.specs.First.{same_name}
use Rattle.ov_types.specs.declared.rows.NodeId.{NodeId}
use Rattle.config_types.specs.declared.topology.Node.{Node}
use Rattle.config_types.specs.declared.topology.Topology.{Topology}
use Rattle.config_node.specs.ConfigCheck.Checked.{Checked}
pub use Rattle.agent_node.specs.NodeModel.Naming.{no_node}
use Rattle.agent_node.specs.NodeModel.Step.{NodeKind, Post, post}
use Rattle.config_node.specs.MachineModel.Setup.{Name, Setup, agents_of, checked, id_of}
use Rattle.config_node.specs.MachineModel.Network.{config}
use Rattle.config_node.specs.MachineModel.Session.{Role, Configuration, Controller, Agent, is_idle, is_up_phase}
use Rattle.config_node.specs.Core as configuration
use Rattle.agent_node.specs.Core as agent
use Rattle.agent_node.specs.declared.plan.AgentPlan.{AgentPlan}
use Rattle.running_nodes.specs.Controls as control
use Rattle.running_nodes.specs.Controls.{Controls}
use Rattle.running_nodes.specs.declared.place.SessionPlace.{SessionPlace}

-- ---- who is there
pub data Who : Type 0 where
  -- the configuration node, with what is valid now
  Configuring : Checked → Who
  Controlling : Controls → Who
  Forwarding : AgentPlan → Who

abbrev pub name_of : Who → Name
name_of (Configuring x) = config
name_of (Controlling c) = c.me.name
name_of (Forwarding plan) = plan.me.name

abbrev pub role_of : Who → Role
role_of (Configuring x) = Configuration
role_of (Controlling c) = Controller
role_of (Forwarding plan) = Agent

-- the names at the other ends of its sessions, by their numbers. At a retired number there is nobody
abbrev pub names_of : List NodeId → List (Option Name)
names_of nodes = map (λ (n : NodeId). Some n.name) nodes

abbrev pub name_there : Option NodeId → Option Name
name_there o = option_map (λ (n : NodeId). n.name) o

abbrev pub others_of : Who → List (Option Name)
others_of (Configuring x) = names_of x.topology.controllers
others_of (Controlling c) = Some config ∷ (names_of c.peers ++ map name_there c.agents)
others_of (Forwarding plan) = names_of plan.controllers

-- what it wants its sessions to have been told, where it may send, and how it spells a change
abbrev pub kind_of : Who → NodeKind
kind_of (Configuring x) = configuration.kind x
kind_of (Controlling c) = control.kind c
kind_of (Forwarding plan) = agent.kind

-- ---- the nodes of a setup
-- the sessions of a control node: with the other control nodes, in the order of the topology, and with the agents that
-- list it, by their numbers
abbrev pub control_plan : Setup → NodeId → Controls
control_plan x c = record {
  me = c;
  asn = x.topology.asn;
  peers = filter (λ (d : NodeId). not (same_name d.name c.name)) x.topology.controllers;
  agents = agents_of x c.name;
}

abbrev pub controller_named : Topology → Name → NodeId
controller_named t name = unwrap_or (find (λ (c : NodeId). same_name c.name name) t.controllers) no_node

-- the sessions of an agent: with its control nodes, in its own order
abbrev pub agent_plan : Topology → Node → AgentPlan
agent_plan t n = record { me = id_of n; controllers = map (controller_named t) n.controllers }

-- all nodes: the configuration node, then the control nodes and then the agents, both in the order of the topology
abbrev pub whos : Setup → List Who
whos x =
    Configuring (checked x) ∷ (map (λ c. Controlling (control_plan x c)) x.topology.controllers
    ++ map (λ n. Forwarding (agent_plan x.topology n)) x.topology.nodes)

-- ---- seats
pub record Seat : Type 0 where
  pub who : Who
  -- the node's end of each session, and the octets that it keeps there: those of a message that is not whole yet
  pub posts : List Post
  pub kept : List (List ℕ)
  -- what left that end and was not taken whole, and the sends from now on that are to fail there
  pub links : List (List (List ℕ))
  pub breaks : List (List ℕ)
  -- at which of its ends a notice of loss waits
  pub notices : List Bool

abbrev pub nobody : Seat
nobody = record {
  who = Forwarding (record { me = no_node; controllers = [] });
  posts = [];
  kept = [];
  links = [];
  breaks = [];
  notices = [];
}

abbrev pub seat : List Seat → ℕ → Seat
seat seats k = slice_index_or seats k nobody

abbrev pub link : Seat → ℕ → List (List ℕ)
link n i = slice_index_or n.links i []

abbrev pub kept_in : Seat → ℕ → List ℕ
kept_in n i = slice_index_or n.kept i []

abbrev pub breaks_in : Seat → ℕ → List ℕ
breaks_in n i = slice_index_or n.breaks i []

abbrev pub notice : Seat → ℕ → Bool
notice n i = slice_index_or n.notices i false

-- how many octets of the first message in flight to an end were taken: none where a notice waits
abbrev pub taken_in : Seat → ℕ → ℕ
taken_in n i = if notice n i then 0 else length (kept_in n i)

-- the name at the other end, where there is somebody
abbrev pub other : Seat → ℕ → Option Name
other n i = slice_index_or (others_of n.who) i None

abbrev pub is_live : Seat → ℕ → Bool
is_live n i = not (is_idle (post n.posts i).phase)

abbrev pub is_up : Seat → ℕ → Bool
is_up n i = is_up_phase (post n.posts i).phase

-- ---- places: one end of a session, by the numbers of its node and of the session there
abbrev pub index_from : {A : Type 0} → ℕ → (A → Bool) → List A → Option ℕ
index_from i is [] = None
index_from i is (x ∷ xs) = if is x then Some i else index_from (suc i) is xs

abbrev pub is_name : Name → Option Name → Bool
is_name name None = false
is_name name (Some m) = same_name m name

-- the first session of a node with the node of this name
abbrev pub session_with : Seat → Name → Option ℕ
session_with n name = index_from 0 (is_name name) (others_of n.who)

abbrev pub seat_named : List Seat → Name → Option ℕ
seat_named seats name = index_from 0 (λ (n : Seat). same_name (name_of n.who) name) seats

-- the first node's end of its session with the second
abbrev pub place_at : List Seat → Name → Option ℕ → Option SessionPlace
place_at seats b None = None
place_at seats b (Some k) = option_map (λ i. record { node = k; session = i }) (session_with (seat seats k) b)

abbrev pub place_of : List Seat → Name → Name → Option SessionPlace
place_of seats a b = place_at seats b (seat_named seats a)

-- the place at the other end of the session of a place
abbrev pub far_of : List Seat → SessionPlace → Option SessionPlace
far_of seats p =
    option_and_then (λ b. place_of seats b (name_of (seat seats p.node).who)) (other (seat seats p.node) p.session)

-- ---- what stands at a place
abbrev pub live_at : List Seat → SessionPlace → Bool
live_at seats p = is_live (seat seats p.node) p.session

abbrev pub up_at : List Seat → SessionPlace → Bool
up_at seats p = is_up (seat seats p.node) p.session

abbrev pub notice_at : List Seat → SessionPlace → Bool
notice_at seats p = notice (seat seats p.node) p.session

abbrev pub link_at : List Seat → SessionPlace → List (List ℕ)
link_at seats p = link (seat seats p.node) p.session

abbrev pub kept_at : List Seat → SessionPlace → List ℕ
kept_at seats p = kept_in (seat seats p.node) p.session

abbrev pub breaks_at : List Seat → SessionPlace → List ℕ
breaks_at seats p = breaks_in (seat seats p.node) p.session

-- an end is whole where it is live and no notice waits there. A session is down where an end is not whole
abbrev pub whole_at : List Seat → SessionPlace → Bool
whole_at seats p = live_at seats p && not (notice_at seats p)

abbrev pub whole_there : List Seat → Option SessionPlace → Bool
whole_there seats None = false
whole_there seats (Some p) = whole_at seats p

abbrev pub is_down_at : List Seat → SessionPlace → Bool
is_down_at seats p = not (whole_at seats p && whole_there seats (far_of seats p))
