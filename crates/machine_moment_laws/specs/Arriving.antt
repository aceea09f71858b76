-- Packets that arrive where the common part of the configurations of a window leads them.
use Rattle.std.specs.Prelude.{◌≡◌, ◌<◌, ◌++◌, ℕ, List, [], ◌∷◌, length, true}
use Rattle.std.specs.List.{list_any}
use Rattle.std.specs.declared.option.Option.TheVariants.{Some}
use Rattle.ov_types.specs.Access.{verdict, verdict_in}
use Rattle.ov_types.specs.Prefix.{Block, contains}
use Rattle.ov_types.specs.declared.numbers.InstanceId.{InstanceId}
use Rattle.ov_types.specs.declared.numbers.PortNo.{PortNo}
use Rattle.ov_types.specs.declared.numbers.ServiceNo.{ServiceNo}
use Rattle.ov_types.specs.declared.objects.AclRule.{AclRule}
use Rattle.ov_types.specs.declared.objects.LowKey.TheVariants as key
use Rattle.ov_types.specs.declared.objects.LowValue.{LowValue}
use Rattle.ov_types.specs.declared.objects.LowValue.TheVariants as low
use Rattle.ov_types.specs.First.{first_of}
use Rattle.ov_types.specs.declared.packet.Outcome.{Outcome}
use Rattle.ov_types.specs.declared.packet.Outcome.TheVariants.{Delivered}
use Rattle.ov_types.specs.declared.packet.Packet.{Packet}
use Rattle.ov_types.specs.declared.packet.Tuple.{Tuple}
use Rattle.ov_types.specs.declared.rows.Attached.{Attached}
use Rattle.ov_types.specs.declared.rows.Attached.TheVariants.{Circuit, Port}
use Rattle.ov_types.specs.declared.rows.Entry.{Entry as RouteEntry}
use Rattle.ov_types.specs.declared.verdict.Verdict.{Verdict}
use Rattle.ov_types.specs.declared.verdict.Verdict.TheVariants as Says
use Rattle.route_targets.specs.Forwarding.{Forwarder, forwarding, source_at, walk}
use Rattle.route_targets.specs.Numbers.{circuit_instance_of, other_side_of, port_label_of}
use Rattle.config_types.specs.declared.topology.Node.{Node}
use Rattle.schedule_script.specs.ConfigCheck.Checked.{Checked}
use Rattle.transform_model.specs.Objects.{low_objects}
use Rattle.node_laws.specs.NodeModel.Members.{Member}
use Rattle.machine_model.specs.Events.{forwarders}
use Rattle.machine_model.specs.Network.{MachineState}
use Rattle.machine_moment_laws.specs.Common.{ChangesHands, rows_at, rows_in_common, standing}

-- what the agent of a compute node forwards by
abbrev pub agent_at_node : MachineState → Node → Forwarder
agent_at_node w n = record { address = n.address; rows = rows_at w n }

-- in an instance the common part leads an address from a node that stands the same in all configurations to another, and to
-- what is attached there; and the address did not change hands
pub record LeadsInCommon (cs : List Checked) (n : Node) (i : InstanceId) (address : ℕ) (next : Node) (what : Attached) : Type 0 where
  pub stays : Member n (standing cs)
  pub route : (InstanceId × Block) × RouteEntry
  pub is_route : Member route (rows_in_common cs n.address).routes
  pub instance : route.0.0 ≡ i
  pub holds : contains route.0.1 address ≡ true
  pub in_hand : ChangesHands cs route.0.0 route.0.1 → ⊥
  pub next_stays : Member next (standing cs)
  pub hop : next.address ≡ route.1.next_hop
  pub label : Member (route.1.label, what) (rows_in_common cs next.address).labels

-- from an instance the common part leads an address through these services to a port: behind a service it goes on in the
-- instance of the other side of the service's circuit
abbrev pub IsCommonWay : List Checked → Node → InstanceId → ℕ → List ServiceNo → PortNo → Type 0
IsCommonWay cs n i address [] q = (next : Node) × (home : InstanceId) × LeadsInCommon cs n i address next (Port q home)
IsCommonWay cs n i address (s ∷ services) q =
    (next : Node) × (circuit : ℕ) × LeadsInCommon cs n i address next (Circuit circuit s)
    × IsCommonWay cs next (circuit_instance_of (other_side_of circuit)) address services q

-- a packet to an address that an agent looks up in an instance goes the common way from there, and is delivered at its end:
-- it visits just the services of that way, in order
abbrev pub GoesTheCommonWay : List Checked → MachineState → Type 0
GoesTheCommonWay cs w =
    (n : Node) (i : InstanceId) (address : ℕ) (services : List ServiceNo) (q : PortNo) → IsCommonWay cs n i address services q
    → (left : ℕ) (before : List ServiceNo) → length services < left
    → walk (forwarders w) address left (agent_at_node w n) before i ≡ Delivered q (before ++ services)

-- the nodes that stand are among those of the present topology
abbrev pub StandsNow : List Checked → MachineState → Type 0
StandsNow cs w = (n : Node) → Member n (standing cs) → Member n w.setup.topology.nodes

-- ---- what access lists say
-- an access list whose subnets hold an address
abbrev pub Meets : LowValue → ℕ → Type 0
Meets v address =
    (subnets : List Block) × (rules : List AclRule) × (v ≡ low.Acl subnets rules)
    × (list_any (λ p. contains p address) subnets ≡ true)

-- the common part has an access list from one network to another; each configuration's list between these two holds the
-- address, and its lists from the first to other networks do not
pub record HeadsInCommon (cs : List Checked) (n : Node) (from to address : ℕ) : Type 0 where
  pub stays : Member n (standing cs)
  pub list : LowValue
  pub is_list : Member (key.Acl from to, list) (rows_in_common cs n.address).acls
  pub meets : (c : Checked) (v : LowValue) → Member c cs → Member (key.Acl from to, v) (low_objects c.topology c.config)
      → Meets v address
  pub alone : (c : Checked) (other : ℕ) (v : LowValue) → Member c cs
      → Member (key.Acl from other, v) (low_objects c.topology c.config) → Meets v address → other ≡ to

-- a verdict is that of the access list which some configuration has between two networks
pub record IsVerdictOfSome (cs : List Checked) (from to : ℕ) (t : Tuple) (v : Verdict) : Type 0 where
  pub config : Checked
  pub among : Member config cs
  pub subnets : List Block
  pub rules : List AclRule
  pub has_list : Member (key.Acl from to, low.Acl subnets rules) (low_objects config.topology config.config)
  pub says : v ≡ verdict_in from t (Some (record { to = to; rules = rules }))

-- the verdict of an agent on a packet that heads from one network to another in all configurations is that of some
-- configuration: none of several, and never that the packet has no destination
abbrev pub VerdictsAreOfSome : List Checked → MachineState → Type 0
VerdictsAreOfSome cs w =
    (n : Node) (p : Packet) (from to : ℕ) → HeadsInCommon cs n from to p.destination.0
    → IsVerdictOfSome cs from to p.tuple (verdict (rows_at w n).acls from p)

-- ---- a packet that each configuration leads along a common way
-- by a verdict a packet goes on in an instance: in that of its network, or in the one that it enters
abbrev pub GoesOnIn : InstanceId → Verdict → InstanceId → Type 0
GoesOnIn from Says.Pass i = i ≡ from
GoesOnIn from (Says.Enter j) i = i ≡ j
GoesOnIn from (Says.Denied rule) i = ⊥
GoesOnIn from Says.NoDestination i = ⊥

-- by the entries of an access list it goes on where a common way leads it to a port, through these services
pub record IsLedBy (cs : List Checked) (n : Node) (from : InstanceId) (to : ℕ) (p : Packet) (q : PortNo) (rules : List AclRule) : Type 0 where
  pub instance : InstanceId
  pub goes_on : GoesOnIn from (verdict_in from.0 p.tuple (Some (record { to = to; rules = rules }))) instance
  pub services : List ServiceNo
  pub few : length services < 64
  pub way : IsCommonWay cs n instance p.destination.0 services q

-- a packet goes on, by the entries of the list that each configuration has between two networks, where a common way
-- leads it to a port
pub record IsLedByAll (cs : List Checked) (n : Node) (from : InstanceId) (to : ℕ) (p : Packet) (q : PortNo) : Type 0 where
  pub heads : HeadsInCommon cs n from.0 to p.destination.0
  pub ways : (c : Checked) (subnets : List Block) (rules : List AclRule) → Member c cs
      → Member (key.Acl from.0 to, low.Acl subnets rules) (low_objects c.topology c.config) → IsLedBy cs n from to p q rules

-- a packet is delivered by the way of one configuration, whole
pub record IsDeliveredByOne (cs : List Checked) (n : Node) (from : InstanceId) (to : ℕ) (p : Packet) (q : PortNo) (o : Outcome) : Type 0 where
  pub config : Checked
  pub among : Member config cs
  pub subnets : List Block
  pub rules : List AclRule
  pub has_list : Member (key.Acl from.0 to, low.Acl subnets rules) (low_objects config.topology config.config)
  pub led : IsLedBy cs n from to p q rules
  pub delivered : o ≡ Delivered q led.services

-- the source port of a packet stands at a node that stands, in this network, in all configurations: whatever its address
pub record StartsInCommon (cs : List Checked) (n : Node) (from : InstanceId) (p : Packet) : Type 0 where
  pub stays : Member n (standing cs)
  pub label : Member (port_label_of p.source, Port p.source from) (rows_in_common cs n.address).labels

-- a packet whose source port stands at a node that stands, in one network, starts at the agent of that node, in that
-- network
abbrev pub StartsWhereCommon : List Checked → MachineState → Type 0
StartsWhereCommon cs w =
    (n : Node) (from : InstanceId) (p : Packet) → StartsInCommon cs n from p
    → first_of (source_at p) (forwarders w) ≡ Some (agent_at_node w n, from)

-- each packet whose source port stands at a node that stands, in one network, and that each configuration leads along a
-- common way, is delivered by the way of one configuration
abbrev pub DeliversByOne : List Checked → MachineState → Type 0
DeliversByOne cs w =
    (n : Node) (from : InstanceId) (to : ℕ) (p : Packet) (q : PortNo) → StartsInCommon cs n from p → IsLedByAll cs n from to p q
    → IsDeliveredByOne cs n from to p q (forwarding (forwarders w) p)
