-- A network: the state of all nodes and of what is in flight between them, and what each node goes by.
use Rattle.std.specs.Prelude.{ℕ, ◌+◌, List, [], ◌∷◌, ◌++◌, map, length, Bool, true, false, not, ◌&&◌}
use Rattle.std.specs.Prelude.{if◌then◌else◌}
use Rattle.std.specs.declared.option.Option.{Option}
use Rattle.std.specs.declared.option.Option.TheVariants.{Some, None}
use Rattle.std.specs.List.{filter, filter_map, flat_map, enumerate_from}
use Rattle.std.specs.FinMap.{empty}
use Rattle.ov_types.specs.First.{same_name}
use Rattle.ov_types.specs.declared.prefix.Addr.{Addr}
use Rattle.ov_types.specs.declared.rows.NodeId.{NodeId}
use Rattle.schedule_script.specs.ConfigTypes.Node.{Node}
use Rattle.schedule_script.specs.ConfigTypes.Topology.{Topology}
use Rattle.schedule_script.specs.ConfigCheck.Checked.{Checked}
use Rattle.schedule_script.specs.ConfigCheck.Finding.{node_named}
use Rattle.schedule_script.specs.ConfigCheck.Rules.{controller_names, node_names}
use Rattle.schedule_script.specs.ConfigCheck.Sentences.{AreDistinct}
use Rattle.transform_model.specs.NodeModel.Maps.{Map}
pub use Rattle.transform_model.specs.NodeModel.Naming.{config}
use Rattle.transform_model.specs.NodeModel.Paths as control
use Rattle.transform_model.specs.NodeModel.Wants.{wanted_by_peers, wanted_by_agent}
use Rattle.transform_model.specs.NodeModel.Agent as agent
use Rattle.transform_model.specs.NodeModel.Step.{Phase, Idle}
pub use Rattle.machine_model.specs.Setup.{lists}
use Rattle.machine_model.specs.Setup.{Name, Setup, low, listed_by, opening, agents_of}
use Rattle.machine_model.specs.Session.{Session, SessionEnd, Role, Configuration, Controller, Agent, turned, is_up_phase}

-- a state: what the network stands on at present, and each session with its two ends, the earlier node's near. What a
-- node holds stands at its ends
pub record MachineState : Type 0 where
  pub setup : Setup
  pub sessions : List Session

-- ---- the start
abbrev pub fresh : Name → Role → SessionEnd
fresh name role = record {
  name = name;
  role = role;
  phase = Idle;
  notice = false;
  sent = empty;
  held = empty;
  flight = [];
  taken = 0;
  breaks = [];
}

-- two nodes that have nothing of each other
abbrev pub between : Name → Role → Name → Role → Session
between a role b other = record { is_down = true; near = fresh a role; far = fresh b other }

abbrev pub feeds : List NodeId → List Session
feeds controllers = map (λ c. between config Configuration c.name Controller) controllers

abbrev pub peerings : List NodeId → List Session
peerings [] = []
peerings (c ∷ cs) = map (λ d. between c.name Controller d.name Controller) cs ++ peerings cs

abbrev pub accesses_of : List NodeId → Node → List Session
accesses_of controllers n = map (λ c. between c.name Controller n.name Agent) (filter (lists n) controllers)

abbrev pub accesses : List NodeId → List Node → List Session
accesses controllers nodes = flat_map (accesses_of controllers) nodes

-- the sessions that a topology asks for, in the order of a round: feeds, then those between control nodes, then those of
-- agents
abbrev pub asked : Topology → List Session
asked t = feeds t.controllers ++ peerings t.controllers ++ accesses t.controllers t.nodes

-- every node is empty and every session is down
abbrev pub start : Checked → MachineState
start x = record { setup = opening x; sessions = asked x.topology }

-- no two nodes have one name, and none has the configuration node's
abbrev pub AreNamed : Topology → Type 0
AreNamed t = AreDistinct (config ∷ controller_names t ++ node_names t)

-- ---- nodes
abbrev pub is_at : Name → SessionEnd → Bool
is_at name e = same_name e.name name

-- the session as the named node sees it, if it is one of that node
abbrev pub seen_by : Name → Session → Option Session
seen_by name s = if is_at name s.near then Some s else if is_at name s.far then Some (turned s) else None

abbrev pub sessions_of : Name → List Session → List Session
sessions_of name sessions = filter_map (seen_by name) sessions

abbrev pub same_role : Role → Role → Bool
same_role Configuration Configuration = true
same_role Controller Controller = true
same_role Agent Agent = true
same_role _ _ = false

-- what a node goes by on one of its sessions: who is there, how far its own end is, and what it holds
pub record View : Type 0 where
  pub name : Name
  pub role : Role
  pub phase : Phase
  pub held : Map
  pub other : Name
  pub other_role : Role

abbrev pub view : Session → View
view s = record {
  name = s.near.name;
  role = s.near.role;
  phase = s.near.phase;
  held = s.near.held;
  other = s.far.name;
  other_role = s.far.role;
}

abbrev pub views_of : Name → List Session → List View
views_of name sessions = map view (sessions_of name sessions)

abbrev pub with_role : Role → List View → List View
with_role role own = filter (λ v. same_role role v.other_role) own

abbrev pub first_held : List View → Map
first_held [] = empty
first_held (v ∷ own) = v.held

abbrev pub heard_from : List View → Name → agent.Heard
heard_from [] name = record { is_up = false; map = empty }
heard_from (v ∷ own) name =
    if same_name v.other name then record { is_up = is_up_phase v.phase; map = v.held } else heard_from own name

-- what the agent of a session with this number told. Of a retired number nothing is held
abbrev pub told_by : List View → ℕ → Option NodeId → Option control.Told
told_by own session (Some a) =
    Some (record { session = session; address = a.address; map = (heard_from own a.name).map })
told_by own session None = None

-- what a control node that has these agents holds, from its sessions
abbrev pub holdings_of : ℕ → List (Option NodeId) → List View → control.Holdings
holdings_of asn agents own = record {
  asn = asn;
  feed = first_held (with_role Configuration own);
  peers = map (λ v. v.held) (with_role Controller own);
  agents = filter_map (λ e. told_by own e.0 e.1) (enumerate_from (1 + length (with_role Controller own)) agents);
}

abbrev pub control_holdings : Setup → Name → List View → control.Holdings
control_holdings x name own = holdings_of x.topology.asn (agents_of x name) own

-- the agent of this name, as a control node knows it
abbrev pub address_in : List (Option NodeId) → Name → Addr
address_in [] name = record { 0 = 0 }
address_in (None ∷ agents) name = address_in agents name
address_in (Some a ∷ agents) name = if same_name a.name name then a.address else address_in agents name

abbrev pub told_on : List (Option NodeId) → View → control.Told
told_on agents v = record { session = 0; address = address_in agents v.other; map = v.held }

-- what an agent holds, in the order in which it lists its control nodes
abbrev pub agent_holdings : Setup → Name → List View → agent.Holdings
agent_holdings x name own = map (heard_from own) (listed_by (node_named x.topology name))

abbrev pub wanted_from_control : ℕ → List (Option NodeId) → List View → View → Role → Map
wanted_from_control asn agents own v Configuration = empty
wanted_from_control asn agents own v Controller = wanted_by_peers (holdings_of asn agents own)
wanted_from_control asn agents own v Agent = wanted_by_agent (holdings_of asn agents own) (told_on agents v)

abbrev pub wanted_from : Setup → List View → View → Role → Map
wanted_from x own v Configuration = low x
wanted_from x own v Controller = wanted_from_control x.topology.asn (agents_of x v.name) own v v.other_role
wanted_from x own v Agent = agent.wanted (agent_holdings x v.name own)

-- what a node with these sessions wants the other end of one of them to have been told
unfoldable pub wanted : Setup → List View → View → Map
wanted x own v = wanted_from x own v v.role

-- ---- sessions that are taken away, and new ones
-- a session of the agent of this name
abbrev pub is_of : Name → Session → Bool
is_of name s = is_at name s.far && same_role Agent s.far.role

-- the sessions of an agent are taken away, and others stand in their place, or after all where there were none
abbrev pub replaced : Name → List Session → List Session → List Session
replaced name new [] = new
replaced name new (s ∷ sessions) =
    if is_of name s then new ++ filter (λ s. not (is_of name s)) sessions else s ∷ replaced name new sessions

-- the new sessions of a compute node
abbrev pub brought : List NodeId → Option Node → List Session
brought controllers None = []
brought controllers (Some n) = accesses_of controllers n
