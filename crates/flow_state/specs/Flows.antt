-- Flows that are permitted one way, and what becomes of packets beside a table of flows.
use Rattle.std.specs.Prelude.{◌≡◌, ◌≢◌, ◌≤◌, ◌&&◌, ◌==◌, Bool, false, not, length, List, reverse, find, Option, Some, None, option_map}
use Rattle.std.specs.Prelude.{if◌then◌else◌}
use Rattle.std.specs.List.{list_any}
use Rattle.std.specs.Option.{option_map_or}
use Rattle.ov_types.specs.First.{same_name}
use Rattle.ov_types.specs.declared.numbers.PortNo.{PortNo}
use Rattle.ov_types.specs.declared.numbers.ServiceNo.{ServiceNo}
use Rattle.ov_types.specs.declared.packet.Outcome.{Outcome}
use Rattle.ov_types.specs.declared.packet.Outcome.TheVariants.{Delivered, Dropped}
use Rattle.ov_types.specs.declared.packet.Packet.{Packet}
use Rattle.ov_types.specs.declared.packet.Tuple.{Tuple}
use Rattle.ov_types.specs.declared.packet.Why.TheVariants.{Denied}
use Rattle.config_types.specs.declared.config.Config.{Config}
use Rattle.config_types.specs.declared.config.Direction.TheVariants.{OneWay}
use Rattle.config_types.specs.declared.config.Network.{Network}
use Rattle.config_types.specs.declared.config.Port.{Port}
use Rattle.policy_rules.specs.declared.matching.Match.{Match}
use Rattle.policy_rules.specs.Answering.{answering}
use Rattle.policy_rules.specs.Matching.{deciding, speaks_both_ways}
use Rattle.config_check.specs.Finding.{network_named, port_at, port_numbered}
use Rattle.reach_plain.specs.Reachability.{network_towards, reachability}
use Rattle.flow_state.specs.declared.flow.Flow.{Flow}
use Rattle.flow_state.specs.Recent.{same_flow}

-- a flow's forward packet: from its source to the address of its target; there is none where no port is the target
abbrev pub forward_packet : Config → Flow → Option Packet
forward_packet c f =
    option_map (λ q. record { source = f.source; destination = q.address; tuple = f.tuple }) (port_numbered c f.target.0)

-- a flow's reply: from its target to the address of its source, with the two ports of its tuple exchanged
abbrev pub reply_packet : Config → Flow → Option Packet
reply_packet c f =
    option_map (λ q. record { source = f.target; destination = q.address; tuple = answering f.tuple })
    (port_numbered c f.source.0)

-- the network of a port
abbrev pub network_at : Config → Option Port → Option Network
network_at c None = None
network_at c (Some q) = network_named c q.network

abbrev pub network_of : Config → PortNo → Option Network
network_of c n = network_at c (port_numbered c n.0)

-- a configuration permits a flow one way: its forward packet is delivered to its target, which is of another network
-- than its source, and the rule that decides between the two is of one direction
pub record PermitsOneWay (c : Config) (f : Flow) : Type 0 where
  pub packet : Packet
  pub forward : forward_packet c f ≡ Some packet
  pub services : List ServiceNo
  pub delivered : reachability c packet ≡ Delivered f.target services
  pub own : Network
  pub own_is : network_of c f.source ≡ Some own
  pub target : Network
  pub target_is : network_of c f.target ≡ Some target
  pub apart : target.name ≢ own.name
  pub decider : Match
  pub decides : deciding c own target f.tuple ≡ Some decider
  pub one_way : decider.rule.rule.direction ≡ OneWay

-- the rule that decides between the two networks of a flow is of one direction
abbrev pub speaks_one_way : Option Match → Bool
speaks_one_way None = false
speaks_one_way (Some m) = not (speaks_both_ways m.rule.rule.direction)

abbrev pub one_way_between : Config → Tuple → Option Network → Option Network → Bool
one_way_between c t None b = false
one_way_between c t (Some a) None = false
one_way_between c t (Some a) (Some b) = not (same_name b.name a.name) && speaks_one_way (deciding c a b t)

abbrev pub is_one_way : Config → Flow → Bool
is_one_way c f = one_way_between c f.tuple (network_of c f.source) (network_of c f.target)

-- the flow of a packet to a port
abbrev pub flow_to : Packet → PortNo → Flow
flow_to p q = record { source = p.source; target = q; tuple = p.tuple }

-- the flow that a packet is the forward packet of, where it is permitted one way
abbrev pub forward_use : Config → Packet → PortNo → Option Flow
forward_use c p q = if is_one_way c (flow_to p q) then Some (flow_to p q) else None

-- the flow that a packet would be the reply of: its source is the port at the packet's destination
abbrev pub flow_from : Packet → Option Port → Option Flow
flow_from p None = None
flow_from p (Some q) = Some (record { source = q.id; target = p.source; tuple = answering p.tuple })

abbrev pub answered_in : Config → Packet → Option Network → Option Flow
answered_in c p None = None
answered_in c p (Some a) = flow_from p (port_at c a p.destination.0)

abbrev pub answered_from : Config → Packet → Option Network → Option Flow
answered_from c p None = None
answered_from c p (Some b) = answered_in c p (network_towards c b p.destination.0)

unfoldable pub candidate : Config → Packet → Option Flow
candidate c p = answered_from c p (network_of c p.source)

-- a flow, where it stands among these
abbrev pub standing : Option Flow → List Flow → Option Flow
standing None flows = None
standing (Some f) flows = if list_any (same_flow f) flows then Some f else None

-- a packet is delivered through at most 15 services
abbrev pub IsShort : Outcome → Type 0
IsShort (Delivered q services) = length services ≤ 15
IsShort (Dropped why) = Unit {0}

-- two packets are one
abbrev pub same_packet : Packet → Packet → Bool
same_packet p q =
    (p.source.0 == q.source.0) && (p.destination.0 == q.destination.0) && (p.tuple.proto == q.tuple.proto)
    && (p.tuple.sport == q.tuple.sport) && (p.tuple.dport == q.tuple.dport)

-- a packet is a flow's reply
abbrev pub replies : Config → Packet → Flow → Bool
replies c p f = option_map_or (λ r. same_packet r p) (reply_packet c f) false

-- the flow among these whose reply a packet is
abbrev pub answered : Config → List Flow → Packet → Option Flow
answered c flows p = find (λ f. replies c p f) flows

-- what becomes of a flow's reply: it is delivered to the flow's source, through the services of the forward packet in
-- reverse
abbrev pub back_through : PortNo → Outcome → Outcome
back_through source (Delivered q services) = Delivered source (reverse services)
back_through source (Dropped why) = Dropped why

abbrev pub returned : Config → Flow → Outcome → Outcome
returned c f denied = option_map_or (λ p. back_through f.source (reachability c p)) (forward_packet c f) denied

-- the flow among these that a denied packet answers
abbrev pub let_back : Config → List Flow → Packet → Outcome → Option Flow
let_back c flows p (Delivered q services) = None
let_back c flows p (Dropped (Denied rule)) = answered c flows p
let_back c flows p (Dropped why) = None

abbrev pub outcome_beside : Config → Outcome → Option Flow → Outcome
outcome_beside c plain None = plain
outcome_beside c plain (Some f) = returned c f plain

-- the outcome of a packet beside a table of flows: as without, except where that denies it and the packet is the reply
-- of a flow in the table
unfoldable pub flow_outcome : Config → List Flow → Packet → Outcome
flow_outcome c flows p = outcome_beside c (reachability c p) (let_back c flows p (reachability c p))

abbrev pub use_beside : Config → Packet → Outcome → Option Flow → Option Flow
use_beside c p (Delivered q services) back = forward_use c p q
use_beside c p (Dropped why) back = back

-- the flow that a packet uses: that of which it is the forward packet, where it is permitted one way, or that whose
-- reply it is, where the exception lets it back
unfoldable pub flow_use : Config → List Flow → Packet → Option Flow
flow_use c flows p = use_beside c p (reachability c p) (let_back c flows p (reachability c p))
