-- The document of each value: an object with each member under its own name, in the order of the names.
use Rattle.std.specs.Prelude.{ℕ, List, [], ◌∷◌, codes}
use Rattle.serde_json.specs.Data.{Data, number, string, array, object, unsigned, Items, no_items, item, Members}
use Rattle.serde_json.specs.Data.{no_members, member}
use Rattle.ov_types.specs.Prefix.{Block}
use Rattle.ov_types.specs.Texts.{address_text, prefix_text}
use Rattle.ov_types.specs.declared.packet.Packet.{Packet}
use Rattle.ov_types.specs.declared.packet.Range16.{Range16}
use Rattle.ov_types.specs.declared.rows.NodeId.{NodeId}
use Rattle.config_types.specs.declared.config.Action.{Action}
use Rattle.config_types.specs.declared.config.Action.TheVariants.{Pass, Deny, Through}
use Rattle.config_types.specs.declared.config.Chain.{Chain}
use Rattle.config_types.specs.declared.config.Config.{Config}
use Rattle.config_types.specs.declared.config.Direction.{Direction}
use Rattle.config_types.specs.declared.config.Direction.TheVariants.{OneWay, BothWays}
use Rattle.config_types.specs.declared.config.End.{End}
use Rattle.config_types.specs.declared.config.End.TheVariants.{Any, Named}
use Rattle.config_types.specs.declared.config.Network.{Network}
use Rattle.config_types.specs.declared.config.Policy.{Policy}
use Rattle.config_types.specs.declared.config.Port.{Port}
use Rattle.config_types.specs.declared.config.Protocol.{Protocol}
use Rattle.config_types.specs.declared.config.Protocol.TheVariants as protocol
use Rattle.config_types.specs.declared.config.Rule.{Rule}
use Rattle.config_types.specs.declared.config.Service.{Service}
use Rattle.config_model.specs.declared.input.CompileInput.{CompileInput}
use Rattle.config_model.specs.declared.input.ReachInput.{ReachInput}
use Rattle.config_types.specs.declared.topology.Node.{Node}
use Rattle.config_types.specs.declared.topology.Topology.{Topology}

abbrev pub items_of : {A : Type 0} → (A → Data) → List A → Items
items_of document [] = no_items
items_of document (x ∷ xs) = item (document x) (items_of document xs)

-- a list, of the documents of its items
abbrev pub list_document : {A : Type 0} → (A → Data) → List A → Data
list_document document xs = array (items_of document xs)

abbrev pub number_document : ℕ → Data
number_document n = number (unsigned n)

abbrev pub prefix_document : Block → Data
prefix_document b = string (prefix_text b)

abbrev pub controller_document : NodeId → Data
controller_document n = object (member (codes "address") (string (address_text n.address.0))
    (member (codes "name") (string n.name) no_members))

abbrev pub node_document : Node → Data
node_document n = object (member (codes "address") (string (address_text n.address.0))
    (member (codes "controllers") (list_document string n.controllers)
    (member (codes "name") (string n.name) no_members)))

abbrev pub topology_document : Topology → Data
topology_document t = object (member (codes "as") (number_document t.asn)
    (member (codes "controllers") (list_document controller_document t.controllers)
    (member (codes "nodes") (list_document node_document t.nodes) no_members)))

abbrev pub network_document : Network → Data
network_document n = object (member (codes "id") (number_document n.id.0)
    (member (codes "name") (string n.name)
    (member (codes "policies") (list_document string n.policies)
    (member (codes "subnets") (list_document prefix_document n.subnets) no_members))))

abbrev pub port_document : Port → Data
port_document p = object (member (codes "address") (string (address_text p.address.0))
    (member (codes "id") (number_document p.id.0)
    (member (codes "name") (string p.name)
    (member (codes "network") (string p.network)
    (member (codes "node") (string p.node) no_members)))))

abbrev pub direction_document : Direction → Data
direction_document OneWay = string (codes ">")
direction_document BothWays = string (codes "<>")

abbrev pub end_document : End → Data
end_document Any = string (codes "any")
end_document (Named name) = string name

abbrev pub protocol_document : Protocol → Data
protocol_document protocol.Any = string (codes "any")
protocol_document (protocol.Number n) = number_document n

abbrev pub range_document : Range16 → Data
range_document r = list_document number_document (r.lo ∷ r.hi ∷ [])

-- the members of a rule from `destination` to `source_ports`, and those after them
abbrev pub rule_members_with : Rule → Members → Members
rule_members_with r after = member (codes "destination") (end_document r.destination)
    (member (codes "destination_ports") (range_document r.destination_ports)
    (member (codes "direction") (direction_document r.direction)
    (member (codes "protocol") (protocol_document r.protocol)
    (member (codes "source") (end_document r.source)
    (member (codes "source_ports") (range_document r.source_ports) after)))))

-- the members of a rule with this action
abbrev pub rule_members_for : Rule → Action → Members
rule_members_for r Pass = member (codes "action") (string (codes "pass")) (rule_members_with r no_members)
rule_members_for r Deny = member (codes "action") (string (codes "deny")) (rule_members_with r no_members)
rule_members_for r (Through chain use_no) = member (codes "action") (string (codes "chain"))
    (member (codes "chain") (string chain)
    (rule_members_with r (member (codes "use") (number_document use_no) no_members)))

abbrev pub rule_document : Rule → Data
rule_document r = object (rule_members_for r r.action)

abbrev pub policy_document : Policy → Data
policy_document p = object (member (codes "name") (string p.name)
    (member (codes "rules") (list_document rule_document p.rules)
    (member (codes "sequence") (number_document p.sequence) no_members)))

abbrev pub service_document : Service → Data
service_document s = object (member (codes "id") (number_document s.id.0)
    (member (codes "name") (string s.name)
    (member (codes "node") (string s.node) no_members)))

abbrev pub chain_document : Chain → Data
chain_document c = object (member (codes "hops") (list_document string c.hops)
    (member (codes "name") (string c.name) no_members))

abbrev pub config_document : Config → Data
config_document c = object (member (codes "chains") (list_document chain_document c.chains)
    (member (codes "networks") (list_document network_document c.networks)
    (member (codes "policies") (list_document policy_document c.policies)
    (member (codes "ports") (list_document port_document c.ports)
    (member (codes "services") (list_document service_document c.services) no_members)))))

abbrev pub packet_document : Packet → Data
packet_document p = object (member (codes "dport") (number_document p.tuple.dport)
    (member (codes "port") (number_document p.source.0)
    (member (codes "protocol") (number_document p.tuple.proto)
    (member (codes "sport") (number_document p.tuple.sport)
    (member (codes "to") (string (address_text p.destination.0)) no_members)))))

abbrev pub compile_document : CompileInput → Data
compile_document i = object (member (codes "configuration") (config_document i.config)
    (member (codes "topology") (topology_document i.topology) no_members))

abbrev pub reach_document : ReachInput → Data
reach_document r = object (member (codes "configuration") (config_document r.input.config)
    (member (codes "packets") (list_document packet_document r.packets)
    (member (codes "topology") (topology_document r.input.topology) no_members)))
