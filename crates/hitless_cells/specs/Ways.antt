-- By which way a configuration leads a packet to a port, and which ways it offers, whatever the packet's tuple and whatever
-- the order of rules.
use Rattle.std.specs.Prelude.{◌≡◌, ◌≢◌, ◌≤◌, ℕ, Bool, true, false, IsTrue, List, [], map, reverse, Option, Some, None}
use Rattle.std.specs.List.{AllZip, Contains}
use Rattle.ov_types.specs.Prefix.{Block, contains}
use Rattle.ov_types.specs.declared.numbers.InstanceId.{InstanceId}
use Rattle.ov_types.specs.declared.numbers.PortNo.{PortNo}
use Rattle.ov_types.specs.declared.numbers.ServiceNo.{ServiceNo}
use Rattle.ov_types.specs.declared.packet.Packet.{Packet}
use Rattle.ov_types.specs.declared.packet.Tuple.{Tuple}
use Rattle.config_types.specs.declared.config.Action.TheVariants.{Pass, Through}
use Rattle.config_types.specs.declared.config.Config.{Config}
use Rattle.config_types.specs.declared.config.Direction.TheVariants.{BothWays}
use Rattle.config_types.specs.declared.config.Network.{Network}
use Rattle.config_types.specs.declared.config.Port.{Port}
use Rattle.config_types.specs.declared.config.Rule.{Rule}
use Rattle.config_types.specs.declared.config.Service.{Service}
use Rattle.config_types.specs.declared.topology.Node.{Node}
use Rattle.config_types.specs.declared.topology.Topology.{Topology}
use Rattle.chain_expand.specs.Expansion.{expansion}
use Rattle.policy_rules.specs.Standing.{Fits, IsBetween, PassesBetween}
use Rattle.policy_rules.specs.Taking.{IsDeciding}
use Rattle.policy_rules.specs.declared.matching.Match.{Match}
use Rattle.policy_rules.specs.declared.numbered.NumberedRule.{NumberedRule}
use Rattle.config_check.specs.Checked.{Checked}
use Rattle.reach_plain.specs.Outcomes.{Goes, Leaves}

-- inside one network; from one into another by a pass rule; or through the services of the use of this number, in their
-- order, or reversed where its rule is matched mirrored
pub data Way : Type 0 where
  inside : Way
  passing : Way
  through : ℕ → Bool → Way

-- ---- the way that is taken
-- a pass rule decides on a tuple from one network into another
pub record IsPassed (c : Config) (own target : Network) (t : Tuple) : Type 0 where
  pub decider : Match
  pub decides : IsDeciding c own target t decider
  pub passes : decider.rule.rule.action ≡ Pass

-- the chain rule of a use decides on it, matched forwards or mirrored
pub record IsLedThrough (c : Config) (own target : Network) (t : Tuple) (use_no : ℕ) (mirrored : Bool) : Type 0 where
  pub decider : Match
  pub decides : IsDeciding c own target t decider
  pub chain : List ℕ
  pub leads : decider.rule.rule.action ≡ Through chain use_no
  pub matched : decider.mirrored ≡ mirrored

-- a tuple goes from one network into another by a way: inside one network no rule is asked
abbrev pub GoesBy : Config → Network → Network → Tuple → Way → Type 0
GoesBy c own target t inside = target.name ≡ own.name
GoesBy c own target t passing = (target.name ≢ own.name) × IsPassed c own target t
GoesBy c own target t (through use_no mirrored) = (target.name ≢ own.name) × IsLedThrough c own target t use_no mirrored

-- a port of this number stands in a network, at a packet's destination
pub record Arrives (c : Config) (p : Packet) (number : PortNo) (target : Network) : Type 0 where
  pub arrival : Port
  pub arrival_stands : Contains c.ports arrival
  pub arrival_network : arrival.network ≡ target.name
  pub arrival_address : arrival.address ≡ p.destination
  pub arrival_number : arrival.id ≡ number

-- a configuration leads a packet to a port by a way
pub record LeadsTo (c : Config) (p : Packet) (number : PortNo) (way : Way) : Type 0 where
  pub own : Network
  pub target : Network
  pub goes : Goes c p own target
  pub by_way : GoesBy c own target p.tuple way
  pub arrives : Arrives c p number target

-- ---- the ways that are offered
-- what a way stands on: the numbers of the networks that it leads from and into, the compute nodes of both ports with their
-- addresses and control nodes, and where it leads through a chain the number of each of its services, with the compute node
-- of that, and the subnet that the destination lies in
pub record Track : Type 0 where
  pub from : InstanceId
  pub to : InstanceId
  pub source_node : Node
  pub arrival_node : Node
  pub stops : List (ServiceNo × Node)
  pub subnet : Option Block

-- a compute node has this name
pub record IsNodeNamed (t : Topology) (name : List ℕ) (n : Node) : Type 0 where
  pub stands : Contains t.nodes n
  pub named : n.name ≡ name

-- a service with its compute node
pub record IsStop (t : Topology) (s : Service) (stop : ServiceNo × Node) : Type 0 where
  pub number : s.id ≡ stop.0
  pub node : IsNodeNamed t s.node stop.1

-- a rule speaks of packets from one network into another forwards, or of those that answer them
abbrev pub SpeaksOf : Network → Network → Rule → Bool → Type 0
SpeaksOf own target r false = Fits r own target
SpeaksOf own target r true = (r.direction ≡ BothWays) × Fits r target own

-- a rule's ranges of ports have some port each
abbrev pub HasPorts : Rule → Type 0
HasPorts r = (r.source_ports.lo ≤ r.source_ports.hi) × (r.destination_ports.lo ≤ r.destination_ports.hi)

-- the chain rule of a use stands between two networks and speaks of packets from the one into the other; its chain's services
-- stand at these nodes, and this subnet of the second holds the packet's destination
pub record OffersUse (x : Checked) (p : Packet) (own target : Network) (use_no : ℕ) (mirrored : Bool) (track : Track) : Type 0 where
  pub rule : NumberedRule
  pub stands : IsBetween x.config own target rule
  pub chain : List ℕ
  pub leads : rule.rule.action ≡ Through chain use_no
  pub speaks : SpeaksOf own target rule.rule mirrored
  pub stops : AllZip (IsStop x.topology) (expansion x.config chain) track.stops
  pub subnet : Block
  pub subnet_stands : Contains target.subnets subnet
  pub holds : IsTrue (contains subnet p.destination.0)
  pub subnet_is : track.subnet ≡ Some subnet

-- no chain is led through
pub record IsPlain (track : Track) : Type 0 where
  pub no_stops : track.stops ≡ []
  pub no_subnet : track.subnet ≡ None

-- what a way asks of the rules between two networks
abbrev pub Opens : Checked → Packet → Network → Network → Way → Track → Type 0
Opens x p own target inside track = (target.name ≡ own.name) × IsPlain track
Opens x p own target passing track = (target.name ≢ own.name) × PassesBetween x.config own target × IsPlain track
Opens x p own target (through use_no mirrored) track =
    (target.name ≢ own.name) × OffersUse x p own target use_no mirrored track

-- a configuration offers a way for a packet to a port, with this track
pub record Offers (x : Checked) (p : Packet) (number : PortNo) (way : Way) (track : Track) : Type 0 where
  pub own : Network
  pub own_is : own.id ≡ track.from
  pub leaves : Leaves x.config p own
  pub source_node : IsNodeNamed x.topology leaves.source.node track.source_node
  pub target : Network
  pub target_is : target.id ≡ track.to
  pub target_stands : Contains x.config.networks target
  pub arrives : Arrives x.config p number target
  pub arrival_node : IsNodeNamed x.topology arrives.arrival.node track.arrival_node
  pub opens : Opens x p own target way track

-- the services that a packet visits on a way with this track
abbrev pub visited : Way → Track → List ServiceNo
visited inside track = []
visited passing track = []
visited (through use_no false) track = map (λ s. s.0) track.stops
visited (through use_no true) track = reverse (map (λ s. s.0) track.stops)
