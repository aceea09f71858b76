-- What each session is to hold, by its two nodes, and the rank of each key there.
use Rattle.std.specs.Prelude.{◌≡◌, ℕ, ◌+◌, ◌≤◌, List, ◌∷◌, map, length, Bool, if◌then◌else◌}
use Rattle.std.specs.declared.option.Option.{Option}
use Rattle.std.specs.declared.option.Option.TheVariants.{Some, None}
use Rattle.std.specs.List.{AllByRecursion, filter, filter_map, enumerate_from}
use Rattle.std.specs.FinMap.{get, empty}
use Rattle.std.specs.Option.{option_map, unwrap_or}
use Rattle.ov_types.specs.First.{same_name}
use Rattle.ov_types.specs.declared.prefix.Addr.{Addr}
use Rattle.ov_types.specs.declared.rows.NodeId.{NodeId}
use Rattle.config_types.specs.declared.topology.Node.{Node}
use Rattle.machine_model.specs.Setup.{Setup}
use Rattle.schedule_script.specs.ConfigCheck.Finding.{node_named}
use Rattle.node_laws.specs.NodeModel.Members.{Member}
use Rattle.node_laws.specs.NodeModel.Keys.{Key, Low}
use Rattle.node_laws.specs.NodeModel.Values.{Value}
use Rattle.node_laws.specs.NodeModel.Maps.{Map}
use Rattle.node_laws.specs.NodeModel.Reaching.{Side, sides}
use Rattle.node_laws.specs.NodeModel.Wants.{slice}
use Rattle.node_laws.specs.NodeModel.Agent.{told_of}
use Rattle.node_laws.specs.NodeModel.Ranks.{peer_rank}
use Rattle.machine_model.specs.Setup.{Name, agents_of, longest, low}
use Rattle.machine_model.specs.Session.{Role, Configuration, Controller, Agent}
use Rattle.machine_model.specs.Network.{address_in, config, same_role}
use Rattle.machine_model.specs.Moments.{NodePair}
use Rattle.machine_laws.specs.Compiled.{Agents, told_to_agent, told_to_peers}
use Rattle.machine_laws.specs.Sound.{IsServed, IsSound}

-- an end of a session, by its node's name and role
abbrev pub Party : Type 0
Party = Name × Role

-- the names tell the roles
abbrev pub role_in : Option Node → Role
role_in None = Controller
role_in (Some n) = Agent

abbrev pub role_of : Setup → Name → Role
role_of x name = if same_name name config then Configuration else role_in (node_named x.topology name)

-- the parties with which a node has sessions, in their order
abbrev pub other_end : Name → NodePair → Option Party
other_end name p =
    if same_name p.0.0 name then Some p.1 else if same_name p.1.0 name then Some p.0 else None

abbrev pub others : Name → List NodePair → List Party
others name places = filter_map (other_end name) places

abbrev pub is_in_role : Role → Party → Bool
is_in_role role n = same_role role n.1

-- the agents of a control node, by session and address, and those of each of its peers
abbrev pub address_of : Setup → Name → Addr
address_of x name = unwrap_or (option_map (λ (n : Node). n.address) (node_named x.topology name)) (record { 0 = 0 })

abbrev pub numbered_at : ℕ → Option NodeId → Option (ℕ × Addr)
numbered_at session (Some a) = Some (session, a.address)
numbered_at session None = None

abbrev pub agents_among : Setup → Name → List Party → Agents
agents_among x name os =
    filter_map (λ e. numbered_at e.0 e.1)
    (enumerate_from (1 + length (filter (is_in_role Controller) os)) (agents_of x name))

abbrev pub agents_at : Setup → List NodePair → Name → Agents
agents_at x places name = agents_among x name (others name places)

abbrev pub peers_at : Setup → List NodePair → Name → List Agents
peers_at x places name =
    map (λ o. agents_at x places o.0) (filter (is_in_role Controller) (others name places))

-- what the first node is to tell the second
abbrev pub goal_map : Setup → List NodePair → Name → Role → Name → Role → Map
goal_map x places from Configuration to r = low x
goal_map x places from Agent to r = told_of (slice (low x) (address_of x from))
goal_map x places from Controller to Configuration = empty
goal_map x places from Controller to Controller =
    told_to_peers x.topology.asn (low x) (agents_at x places from)
goal_map x places from Controller to Agent = told_to_agent (low x) (address_of x to)

abbrev pub goal : Setup → List NodePair → Name → Name → Key → Option Value
goal x places from to k = get (goal_map x places from (role_of x from) to (role_of x to)) k

-- the feed 1, a slice 2, publications and subscriptions 3, between control nodes 4 and more, an agent's rows last
abbrev pub agent_rank : ℕ → Key → ℕ
agent_rank longest (Low k) = 2
agent_rank longest _ = longest + 5

abbrev pub rank_by : Setup → Role → Role → Key → ℕ
rank_by x Configuration r k = 1
rank_by x Agent r k = 3
rank_by x Controller Configuration k = 1
rank_by x Controller Controller k = peer_rank (low x) k
rank_by x Controller Agent k = agent_rank (longest x) k

abbrev pub rank : Setup → Name → Name → Key → ℕ
rank x from to k = rank_by x (role_of x from) (role_of x to) k

abbrev pub HasRoles : Setup → NodePair → Type 0
HasRoles x p = (p.0.1 ≡ role_of x p.0.0) × (p.1.1 ≡ role_of x p.1.0)

-- how the sessions of a network stand to its configuration
pub record IsLaid (x : Setup) (places : List NodePair) : Type 0 where
  pub sound : IsSound (low x)
  pub longest : (s : Side) → Member s (sides (low x)) → s.chain.services ≤ longest x
  pub roles : AllByRecursion (HasRoles x) places
  -- each control node has its feed, and serves with its peers all attachments
  pub fed : (n : Name) (o : Party) → Member o (others n places) → role_of x n ≡ Controller
      → (m : Name) × Member (m, Configuration) (others n places)
  pub served : (n : Name) (o : Party) → Member o (others n places) → role_of x n ≡ Controller
      → IsServed (low x) (agents_at x places n) (peers_at x places n)
  -- each number at a control node is of an agent with which it has a session, and under its address
  pub numbered : (n : Name) (o : Party) → Member o (others n places) → role_of x n ≡ Controller
      → (a : NodeId) → Member (Some a) (agents_of x n)
      → Member (a.name, Agent) (others n places) × (address_of x a.name ≡ a.address)
  pub addressed : (n : Name) (o : Party) → Member o (others n places) → role_of x n ≡ Controller → o.1 ≡ Agent
      → address_in (agents_of x n) o.0 ≡ address_of x o.0
  -- each agent has a session with the first control node that it lists
  pub first : (n : Name) (c : Node) → node_named x.topology n ≡ Some c → role_of x n ≡ Agent
      → (m : Name) × (rest : List Name) × (c.controllers ≡ m ∷ rest) × Member (m, Controller) (others n places)
  -- each agent lists control nodes alone
  pub listed : (n : Name) (c : Node) → node_named x.topology n ≡ Some c → (m : Name) → Member m c.controllers
      → role_of x m ≡ Controller
