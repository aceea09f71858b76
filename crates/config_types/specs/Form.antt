-- The written form, as it shows in values: which topologies, configurations, packets, edits and events a document can
-- write.
use Rattle.std.specs.Prelude.{ℕ, List, length, nat_eq, nat_le, Bool, true, not, codes, ◌&&◌, ◌||◌, ◌==◌}
use Rattle.std.specs.List.{list_all}
use Rattle.std.specs.Cmp.Lexicographic.{pointwise}
pub use Rattle.ov_types.specs.Bounds.{is_from_to, is_node_address}
use Rattle.ov_types.specs.Name.{is_name}
pub use Rattle.ov_types.specs.Prefix.{is_block}
use Rattle.ov_types.specs.declared.packet.Packet.{Packet}
use Rattle.ov_types.specs.declared.packet.Range16.{Range16}
use Rattle.ov_types.specs.declared.rows.NodeId.{NodeId}
use Rattle.config_types.specs.declared.config.Action.{Action}
use Rattle.config_types.specs.declared.config.Action.TheVariants.{Pass, Deny, Through}
use Rattle.config_types.specs.declared.config.Chain.{Chain}
use Rattle.config_types.specs.declared.config.Config.{Config}
use Rattle.config_types.specs.declared.config.End.{End}
use Rattle.config_types.specs.declared.config.End.TheVariants.{Any, Named}
use Rattle.config_types.specs.declared.config.Network.{Network}
use Rattle.config_types.specs.declared.config.Policy.{Policy}
use Rattle.config_types.specs.declared.config.Port.{Port}
use Rattle.config_types.specs.declared.config.Protocol.{Protocol}
use Rattle.config_types.specs.declared.config.Protocol.TheVariants.{Number}
use Rattle.config_types.specs.declared.config.Rule.{Rule}
use Rattle.config_types.specs.declared.config.Service.{Service}
use Rattle.config_types.specs.declared.edit.Edit.{Edit}
use Rattle.config_types.specs.declared.edit.Edit.TheVariants.{Put, Delete}
use Rattle.config_types.specs.declared.edit.Object.{Object}
use Rattle.config_types.specs.declared.edit.Object.TheVariants as Objects
use Rattle.config_types.specs.declared.event.Event.{Event}
use Rattle.config_types.specs.declared.event.Event.TheVariants as Events
use Rattle.config_types.specs.declared.topology.Node.{Node}
use Rattle.config_types.specs.declared.topology.Topology.{Topology}

-- the numbers within the bounds that no autonomous system has: 23456 stands in for those of four octets (RFC 6793), and
-- 65535 is the last of two octets (RFC 7300)
abbrev pub is_reserved_as : ℕ → Bool
is_reserved_as n = n == 23456 || n == 65535

-- the number of an autonomous system, of two octets or of four: the last of four is reserved too
abbrev pub is_as_number : ℕ → Bool
is_as_number n = is_from_to 1 4294967294 n && not (is_reserved_as n)

-- a node's name: the configuration node has the name `config`
abbrev pub is_node_name : List ℕ → Bool
is_node_name text = is_name text && not (pointwise nat_eq text (codes "config"))

-- a network's name: rules say `any` for all networks
abbrev pub is_network_name : List ℕ → Bool
is_network_name text = is_name text && not (pointwise nat_eq text (codes "any"))

abbrev pub is_range : Range16 → Bool
is_range r = nat_le r.lo r.hi && nat_le r.hi 65535

unfoldable pub has_controller_form : NodeId → Bool
has_controller_form n = is_node_name n.name && is_node_address n.address.0

unfoldable pub has_node_form : Node → Bool
has_node_form n = is_node_name n.name && is_node_address n.address.0 && list_all is_name n.controllers
    && is_from_to 1 2 (length n.controllers)

-- a topology has its form, but for the number of compute nodes, about which a rule of valid configurations is
abbrev pub has_nodes_form : Topology → Bool
has_nodes_form t =
    is_as_number t.asn
    && list_all has_controller_form t.controllers && nat_le 1 (length t.controllers)
    && list_all has_node_form t.nodes

unfoldable pub has_topology_form : Topology → Bool
has_topology_form t = has_nodes_form t && nat_le 1 (length t.nodes)

unfoldable pub has_network_form : Network → Bool
has_network_form n = is_network_name n.name && is_from_to 1 16383 n.id.0 && list_all is_block n.subnets
    && list_all is_name n.policies

unfoldable pub has_port_form : Port → Bool
has_port_form p = is_name p.name && nat_le p.id.0 524271 && is_name p.network && nat_le p.address.0 0xffff_ffff
    && is_name p.node

abbrev pub has_end_form : End → Bool
has_end_form Any = true
has_end_form (Named name) = is_network_name name

abbrev pub has_protocol_form : Protocol → Bool
has_protocol_form (Number n) = nat_le n 255
has_protocol_form _ = true

abbrev pub has_action_form : Action → Bool
has_action_form Pass = true
has_action_form Deny = true
has_action_form (Through chain use_no) = is_name chain && nat_le use_no 3071

unfoldable pub has_rule_form : Rule → Bool
has_rule_form r = has_end_form r.source && has_end_form r.destination && has_protocol_form r.protocol
    && is_range r.source_ports && is_range r.destination_ports && has_action_form r.action

unfoldable pub has_policy_form : Policy → Bool
has_policy_form p = is_name p.name && nat_le p.sequence 65535 && list_all has_rule_form p.rules

unfoldable pub has_service_form : Service → Bool
has_service_form s = is_name s.name && nat_le s.id.0 65535 && is_name s.node

unfoldable pub has_chain_form : Chain → Bool
has_chain_form c = is_name c.name && list_all is_name c.hops && nat_le 1 (length c.hops)

unfoldable pub has_config_form : Config → Bool
has_config_form c =
    list_all has_network_form c.networks && list_all has_port_form c.ports && list_all has_policy_form c.policies
    && list_all has_service_form c.services && list_all has_chain_form c.chains

unfoldable pub has_packet_form : Packet → Bool
has_packet_form p =
    nat_le p.source.0 524271 && nat_le p.destination.0 0xffff_ffff
    && nat_le p.tuple.proto 255 && nat_le p.tuple.sport 65535 && nat_le p.tuple.dport 65535

-- which objects a document can write
abbrev pub has_object_form : Object → Bool
has_object_form (Objects.Network x) = has_network_form x
has_object_form (Objects.Port x) = has_port_form x
has_object_form (Objects.Policy x) = has_policy_form x
has_object_form (Objects.Service x) = has_service_form x
has_object_form (Objects.Chain x) = has_chain_form x
has_object_form (Objects.Node x) = has_node_form x

-- which edits a document can write
unfoldable pub has_edit_form : Edit → Bool
has_edit_form (Put x) = has_object_form x
has_edit_form (Delete kind name) = is_name name

-- which events a document can write
unfoldable pub has_event_form : Event → Bool
has_event_form (Events.Edit x) = has_edit_form x
has_event_form (Events.Deliver from to n) = is_name from && is_name to && is_from_to 1 1000000 n
has_event_form (Events.DeliverOctets from to n) = is_name from && is_name to && is_from_to 1 1000000 n
has_event_form (Events.Lose a b) = is_name a && is_name b
has_event_form (Events.Connect a b) = is_name a && is_name b
has_event_form (Events.Restart node) = is_name node
has_event_form Events.Round = true
has_event_form Events.Settle = true
has_event_form (Events.Show node) = is_name node
has_event_form (Events.Trace p) = has_packet_form p
has_event_form (Events.Break from to n) = is_name from && is_name to && is_from_to 1 1000000 n
