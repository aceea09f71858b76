-- What all configurations of a window have in common, as low-level objects, and what agents hold of it.
use Rattle.std.specs.Prelude.{◌≡◌, ◌≢◌, ◌==◌, ◌+◌, length, ◌&&◌, ℕ, Bool, true, false, List, [], ◌∷◌, map, is_some, if◌then◌else◌}
use Rattle.std.specs.declared.option.Option.{Option}
use Rattle.std.specs.declared.option.Option.TheVariants.{Some, None}
use Rattle.std.specs.FinMap.{entries, from_entries}
use Rattle.std.specs.List.{filter, filter_map, flat_map, list_all, list_any}
use Rattle.std.specs.Cmp.Lexicographic.{pointwise}
use Rattle.ov_types.specs.Keys.{row_key_cmp}
use Rattle.ov_types.specs.Prefix.{Block, contains}
use Rattle.ov_types.specs.declared.numbers.InstanceId.{InstanceId}
use Rattle.ov_types.specs.declared.numbers.Label.{Label as LabelNo}
use Rattle.ov_types.specs.declared.numbers.PortNo.{PortNo}
use Rattle.ov_types.specs.declared.numbers.ServiceNo.{ServiceNo}
use Rattle.ov_types.specs.declared.objects.AclRule.{AclRule}
use Rattle.ov_types.specs.declared.objects.LowKey.{LowKey}
use Rattle.ov_types.specs.declared.objects.LowKey.TheVariants as key
use Rattle.ov_types.specs.declared.objects.LowValue.{LowValue}
use Rattle.ov_types.specs.declared.objects.LowValue.TheVariants as low
use Rattle.ov_types.specs.declared.prefix.Addr.{Addr}
use Rattle.ov_types.specs.declared.rows.AgentRows.{AgentRows}
use Rattle.ov_types.specs.declared.rows.Attached.{Attached}
use Rattle.ov_types.specs.declared.rows.Entry.{Entry as RouteEntry}
use Rattle.route_targets.specs.Numbers.{circuit_instance_of, circuit_label_of, left_circuit_of, right_circuit_of}
use Rattle.config_types.specs.declared.topology.Node.{Node}
use Rattle.schedule_script.specs.ConfigCheck.Checked.{Checked}
use Rattle.schedule_script.specs.ConfigCheck.Finding.{node_named}
use Rattle.transform_model.specs.Compiled.{route_of}
use Rattle.transform_model.specs.Objects.{low_objects}
use Rattle.node_laws.specs.NodeModel.Agent as agent
use Rattle.node_laws.specs.NodeModel.Agent.{entered_by}
use Rattle.node_laws.specs.NodeModel.Keys.{Key, Low}
use Rattle.node_laws.specs.NodeModel.Maps.{Map, object}
use Rattle.node_laws.specs.NodeModel.Members.{Member}
use Rattle.node_laws.specs.NodeModel.Reaching.{below}
use Rattle.node_laws.specs.NodeModel.Tables.{same_prefix}
use Rattle.node_laws.specs.NodeModel.Uses.{imports, is_hop, network_imports, use_of}
use Rattle.node_laws.specs.NodeModel.Values.{Value, Object, same_value}
use Rattle.node_laws.specs.NodeModel.Wants.{slice}
use Rattle.machine_model.specs.Events.{agent_rows as held_by_agent}
use Rattle.machine_model.specs.Network.{MachineState}
use Rattle.machine_model.specs.Setup.{low_in, stands}
use Rattle.machine_laws.specs.Compiled.{Attachment, attachments, rows_in, same_instance}

-- ---- compute nodes that stand the same in all configurations: with one address and one list of control nodes
abbrev pub stands_in : Node → Checked → Bool
stands_in n c = stands (node_named c.topology n.name) n

abbrev pub standing : List Checked → List Node
standing [] = []
standing (c ∷ cs) = filter (λ n. list_all (stands_in n) cs) c.topology.nodes

abbrev pub stands_at : List Node → Addr → Bool
stands_at ns address = list_any (λ n. n.address.0 == address.0) ns

-- ---- an object of one configuration, and what others have of it
abbrev pub has_instance : InstanceId → List InstanceId → Bool
has_instance i is = list_any (same_instance i) is

abbrev pub has_subnet : Block → List Block → Bool
has_subnet p ps = list_any (same_prefix p) ps

abbrev pub entered : List AclRule → List InstanceId
entered rules = filter_map (λ r. entered_by r.action) rules

-- the kind of an object, and what it lists
abbrev pub is_network : Option LowValue → Bool
is_network (Some (low.Instance is)) = true
is_network _ = false

abbrev pub is_access_list : Option LowValue → Bool
is_access_list (Some (low.Acl subnets rules)) = true
is_access_list _ = false

abbrev pub subnets_of : Option LowValue → List Block
subnets_of (Some (low.Acl subnets rules)) = subnets
subnets_of _ = []

abbrev pub entered_of : Option LowValue → List InstanceId
entered_of (Some (low.Acl subnets rules)) = entered rules
entered_of _ = []

abbrev pub lefts_of : Option LowValue → List Block
lefts_of (Some (low.ChainUse left right left_subnets right_subnets hops)) = left_subnets
lefts_of _ = []

abbrev pub rights_of : Option LowValue → List Block
rights_of (Some (low.ChainUse left right left_subnets right_subnets hops)) = right_subnets
rights_of _ = []

abbrev pub same_hop : ServiceNo × Addr → ServiceNo × Addr → Bool
same_hop a b = (a.0.0 == b.0.0) && (a.1.0 == b.1.0)

-- a use with these two networks and these services at these addresses
abbrev pub is_use_of : InstanceId → InstanceId → List (ServiceNo × Addr) → Option LowValue → Bool
is_use_of left right hops (Some (low.ChainUse l r left_subnets right_subnets hs)) =
    same_instance l left && (same_instance r right && pointwise same_hop hs hops)
is_use_of left right hops _ = false

-- two objects are the same
abbrev pub is_object : LowValue → Option LowValue → Bool
is_object v (Some w) = same_value (Object w) (Object v)
is_object v None = false

-- a port at this node in this network, whatever its address
abbrev pub is_port_in : PortNo → InstanceId → Addr → Option LowValue → Bool
is_port_in port instance node (Some (low.AttachPort p i address n)) =
    (p.0 == port.0) && (same_instance i instance && (n.0 == node.0))
is_port_in port instance node _ = false

-- ---- what is common
module _ (nodes : List Node) (feeds : List Map) where
  -- the rules of an access list that enter an instance which each feed enters by this list
  abbrev pub enters_everywhere : LowKey → AclRule → Bool
  enters_everywhere k r =
      elim (entered_by r.action) [
        | Some i ↦ list_all (λ m. has_instance i (entered_of (object m k))) feeds
        | None ↦ false
      ]

  -- What the other feeds have too of an object of one feed. A network is common with the imports of all; an attachment
  -- where it is one and the same, at a node that stands; an access list with the subnets and the entered instances of
  -- all; a use where its networks and its services are the same, at nodes that stand, with the subnets of all
  abbrev pub common_object : LowKey → LowValue → Option LowValue
  common_object k (low.Instance is) =
      if list_all (λ m. is_network (object m k)) feeds
      then Some (low.Instance (filter (λ i. list_all (λ m. has_instance i (network_imports (object m k))) feeds) is))
      else None
  common_object k (low.AttachPort port instance address node) =
      if list_all (λ m. is_object (low.AttachPort port instance address node) (object m k)) feeds && stands_at nodes node
      then Some (low.AttachPort port instance address node) else None
  common_object k (low.AttachCircuit circuit service node) =
      if list_all (λ m. is_object (low.AttachCircuit circuit service node) (object m k)) feeds && stands_at nodes node
      then Some (low.AttachCircuit circuit service node) else None
  common_object k (low.Acl subnets rules) =
      if list_all (λ m. is_access_list (object m k)) feeds
      then Some (low.Acl (filter (λ p. list_all (λ m. has_subnet p (subnets_of (object m k))) feeds) subnets)
      (filter (enters_everywhere k) rules))
      else None
  common_object k (low.ChainUse left right left_subnets right_subnets hops) =
      if list_all (λ m. is_use_of left right hops (object m k)) feeds && list_all (λ h. stands_at nodes h.1) hops
      then Some (low.ChainUse left right
      (filter (λ p. list_all (λ m. has_subnet p (lefts_of (object m k))) feeds) left_subnets)
      (filter (λ p. list_all (λ m. has_subnet p (rights_of (object m k))) feeds) right_subnets) hops)
      else None

  -- a port is common only with its network, and a circuit only with its use
  abbrev pub is_common_network : LowKey → Option LowValue → Bool
  is_common_network k (Some (low.Instance is)) = is_some (common_object k (low.Instance is))
  is_common_network k _ = false

  abbrev pub is_circuit_object : ℕ → Option LowValue → Bool
  is_circuit_object circuit (Some (low.AttachCircuit c service node)) =
      (c == circuit) && is_some (common_object (key.Attach (circuit_label_of circuit).0) (low.AttachCircuit c service node))
  is_circuit_object circuit _ = false

  abbrev pub is_common_circuit : Map → ℕ → Bool
  is_common_circuit m circuit = is_circuit_object circuit (object m (key.Attach (circuit_label_of circuit).0))

  abbrev pub has_circuits : Map → ℕ → ℕ → Bool
  has_circuits m u services =
      list_all (λ j. is_common_circuit m (left_circuit_of u (j + 1)) && is_common_circuit m (right_circuit_of u (j + 1)))
      (below services)

  -- a use is common with all its circuits
  abbrev pub is_common_use : Map → ℕ → Option LowValue → Bool
  is_common_use m u (Some (low.ChainUse left right left_subnets right_subnets hops)) =
      is_some (common_object (key.ChainUse u) (low.ChainUse left right left_subnets right_subnets hops))
      && has_circuits m u (length hops)
  is_common_use m u _ = false

  abbrev pub has_its_home : Map → LowKey → LowValue → Bool
  has_its_home m k (low.AttachPort port instance address node) =
      is_common_network (key.Instance instance.0) (object m (key.Instance instance.0))
  has_its_home m k (low.AttachCircuit circuit service node) =
      let u = use_of (circuit_instance_of circuit) in
      is_common_use m u (object m (key.ChainUse u))
  has_its_home m (key.ChainUse u) v = is_common_use m u (Some v)
  has_its_home m k v = true

  abbrev pub common_entry : Map → Key → Value → Option (Key × Value)
  common_entry m (Low k) (Object v) =
      if has_its_home m k v then elim (common_object k v) [ Some w ↦ Some (Low k, Object w) | None ↦ None ] else None
  common_entry m _ _ = None

  abbrev pub common_to : Map → Map
  common_to m = from_entries (filter_map (λ e. common_entry m e.0 e.1) (entries m))

  -- a port that stands at one node, which stands, and in one network, is said to stand there, whatever its address
  abbrev pub placed_entry : Map → Key → Value → Option (Key × Value)
  placed_entry m (Low k) (Object (low.AttachPort port instance address node)) =
      if list_all (λ f. is_port_in port instance node (object f k)) feeds && stands_at nodes node
      then Some (Low k, Object (low.AttachPort port instance address node)) else None
  placed_entry m k v = common_entry m k v

  abbrev pub placed_to : Map → Map
  placed_to m = from_entries (filter_map (λ e. placed_entry m e.0 e.1) (entries m))

-- the common part of configurations, as a feed
abbrev pub common : List Checked → Map
common [] = from_entries []
common (c ∷ cs) = common_to (standing (c ∷ cs)) (map low_in cs) (low_in c)

-- the common part, with the ports that stand at one node and in one network but have another address in some configuration.
-- Nothing leads to those. But they start packets: so their labels, access lists and instances are at the agent of their node
abbrev pub placed : List Checked → Map
placed [] = from_entries []
placed (c ∷ cs) = placed_to (standing (c ∷ cs)) (map low_in cs) (low_in c)

-- what the agent at an address has of it: the labels and the access lists of what is placed there, and of the instances that
-- those need the rows that the common part compiles to
abbrev pub rows_in_common : List Checked → Addr → AgentRows
rows_in_common cs address = record {
  labels = filter_map (λ e. agent.attached e.0 e.1) (slice (placed cs) address);
  acls = filter_map (λ e. agent.acl_entry e.0 e.1) (slice (placed cs) address);
  routes = entries (from_entries {R = row_key_cmp}
      (map route_of (flat_map (rows_in (common cs)) (agent.needed_by (slice (placed cs) address)))));
}

-- rows that have all of others: each label, each access list and each route
pub record HasAllRows (rows others : AgentRows) : Type 0 where
  pub labels : (l : LabelNo × Attached) → Member l others.labels → Member l rows.labels
  pub acls : (a : LowKey × LowValue) → Member a others.acls → Member a rows.acls
  pub routes : (r : (InstanceId × Block) × RouteEntry) → Member r others.routes → Member r rows.routes

-- ---- addresses that change hands
-- in some configuration the instance imports that one, and in some configuration that one has something attached under the
-- prefix
abbrev pub InSome : List Checked → (Checked → Type 0) → Type 0
InSome cs P = (c : Checked) × Member c cs × P c

pub record WasHeld (cs : List Checked) (i n : InstanceId) (prefix : Block) : Type 0 where
  pub imported : InSome cs (λ c. Member n (imports (low_in c) i))
  pub attached : InSome cs (λ c. (a : Attachment) × Member a (attachments (low_in c)) × (a.instance ≡ n) × (a.prefix ≡ prefix))

-- two networks had it so, for one that imports both
pub record ChangesHands (cs : List Checked) (i : InstanceId) (prefix : Block) : Type 0 where
  pub network : is_hop i ≡ false
  pub first : InstanceId
  pub second : InstanceId
  pub first_held : WasHeld cs i first prefix
  pub second_held : WasHeld cs i second prefix
  pub apart : first ≢ second

-- ---- what agents hold
-- the rows that an agent forwards by
abbrev pub rows_at : MachineState → Node → AgentRows
rows_at w n = agent.rows (held_by_agent w n.name)

-- Each agent whose compute node stands the same in all configurations has what the common part compiles to: each label,
-- the key of each access list, and each route, but for those to an address that changed hands. So it has for each port that
-- stands there in one network, though its address may change
pub record HasCommonRows (cs : List Checked) (address : Addr) (rows : AgentRows) : Type 0 where
  pub labels : (l : LabelNo × Attached) → Member l (rows_in_common cs address).labels → Member l rows.labels
  pub acls : (k : LowKey) (v : LowValue) → Member (k, v) (rows_in_common cs address).acls
      → (u : LowValue) × Member (k, u) rows.acls
  pub routes : (r : (InstanceId × Block) × RouteEntry) → Member r (rows_in_common cs address).routes
      → (ChangesHands cs r.0.0 r.0.1 → ⊥) → Member r rows.routes

abbrev pub WhatIsCommonStays : List Checked → MachineState → Type 0
WhatIsCommonStays cs w = (n : Node) → Member n (standing cs) → HasCommonRows cs n.address (rows_at w n)

-- Where the common part leads an address in an instance, an agent leads it there alone: of its routes in that instance that
-- contain the address there is none but that one
pub record IsLedAlone (cs : List Checked) (address : Addr) (rows : AgentRows) : Type 0 where
  pub alone : (r s : (InstanceId × Block) × RouteEntry) (d : ℕ) → Member r (rows_in_common cs address).routes
      → (ChangesHands cs r.0.0 r.0.1 → ⊥) → Member s rows.routes → s.0.0 ≡ r.0.0 → contains r.0.1 d ≡ true
      → contains s.0.1 d ≡ true → s ≡ r

abbrev pub NothingElseLeads : List Checked → MachineState → Type 0
NothingElseLeads cs w = (n : Node) → Member n (standing cs) → IsLedAlone cs n.address (rows_at w n)

-- ---- access lists
-- each access list that an agent has in use is that of some configuration
abbrev pub AccessListsAreOfSome : List Checked → MachineState → Type 0
AccessListsAreOfSome cs w =
    (n : Node) → Member n w.setup.topology.nodes → (k : LowKey) (v : LowValue) → Member (k, v) (rows_at w n).acls
    → InSome cs (λ c. Member (k, v) (low_objects c.topology c.config))
