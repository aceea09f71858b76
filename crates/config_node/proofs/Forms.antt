-- What the written form says of each object of a configuration and of a topology.
use Rattle.std.proofs.Common.{◌≡◌, ◌≤◌, ◌&&◌, true, IsTrue, length, nat_le}
use Rattle.std.specs.List.{Contains, list_all}
use Rattle.std.proofs.lemmas.Bool.{and_parts, leb-true}
use Rattle.ov_types.specs.Name.{is_name}
use Rattle.ov_types.specs.Prefix.{Block, is_block}
use Rattle.config_types.specs.Form.{has_chain_form, has_config_form, has_controller_form, has_end_form, has_network_form, has_node_form, has_policy_form, has_port_form, has_protocol_form, has_action_form, has_rule_form, has_service_form, has_topology_form, is_as_number, is_from_to, is_network_name, is_node_address, is_node_name, is_range}
use Rattle.config_types.specs.declared.config.Chain.{Chain}
use Rattle.config_types.specs.declared.config.Config.{Config}
use Rattle.config_types.specs.declared.config.Network.{Network}
use Rattle.config_types.specs.declared.config.Policy.{Policy}
use Rattle.config_types.specs.declared.config.Port.{Port}
use Rattle.config_types.specs.declared.config.Rule.{Rule}
use Rattle.config_types.specs.declared.config.Service.{Service}
use Rattle.config_types.specs.declared.topology.Node.{Node}
use Rattle.config_types.specs.declared.topology.Topology.{Topology}
use Rattle.node_core.specs.ItemWire.Ranges.{are_ports, is_network}
use Rattle.config_node.proofs.Lists.{passes_at}

-- ---- the five lists of a configuration
record Lists (c : Config) : Type 0 where
  networks : list_all has_network_form c.networks ≡ true
  ports : list_all has_port_form c.ports ≡ true
  policies : list_all has_policy_form c.policies ≡ true
  services : list_all has_service_form c.services ≡ true
  chains : list_all has_chain_form c.chains ≡ true

lists : (c : Config) → IsTrue (has_config_form c) → Lists c
unfolding has_config_form
lists c h =
    let a = and_parts (list_all has_network_form c.networks && list_all has_port_form c.ports && list_all has_policy_form c.policies
    && list_all has_service_form c.services) (list_all has_chain_form c.chains) h in
    let b = and_parts (list_all has_network_form c.networks && list_all has_port_form c.ports && list_all has_policy_form c.policies)
    (list_all has_service_form c.services) a.0 in
    let d = and_parts (list_all has_network_form c.networks && list_all has_port_form c.ports) (list_all has_policy_form c.policies) b.0 in
    let e = and_parts (list_all has_network_form c.networks) (list_all has_port_form c.ports) d.0 in
    record { networks = e.0; ports = e.1; policies = d.1; services = b.1; chains = a.1 }

-- ---- networks
pub record NetworkFits (n : Network) : Type 0 where
  pub number : is_network n.id.0 ≡ true
  pub blocks : (b : Block) → Contains n.subnets b → is_block b ≡ true

network_parts : (n : Network) → has_network_form n ≡ true → (is_network n.id.0 ≡ true) × (list_all is_block n.subnets ≡ true)
unfolding has_network_form
network_parts n h =
    let a = and_parts (is_network_name n.name && is_from_to 1 16383 n.id.0 && list_all is_block n.subnets) (list_all is_name n.policies) h in
    let b = and_parts (is_network_name n.name && is_from_to 1 16383 n.id.0) (list_all is_block n.subnets) a.0 in
    ((and_parts (is_network_name n.name) (is_from_to 1 16383 n.id.0) b.0).1, b.1)

pub network_fits : (c : Config) → IsTrue (has_config_form c) → (n : Network) → Contains c.networks n → NetworkFits n
network_fits c h n at =
    let parts = network_parts n (passes_at has_network_form c.networks n (lists c h).networks at) in
    record { number = parts.0; blocks = λ b in_n. passes_at is_block n.subnets b parts.1 in_n }

-- ---- ports
pub record PortFits (p : Port) : Type 0 where
  pub number : nat_le p.id.0 524271 ≡ true
  pub address : nat_le p.address.0 0xffff_ffff ≡ true

port_parts : (p : Port) → has_port_form p ≡ true → PortFits p
unfolding has_port_form
port_parts p h =
    let a = and_parts (is_name p.name && nat_le p.id.0 524271 && is_name p.network && nat_le p.address.0 0xffff_ffff) (is_name p.node) h in
    let b = and_parts (is_name p.name && nat_le p.id.0 524271 && is_name p.network) (nat_le p.address.0 0xffff_ffff) a.0 in
    let d = and_parts (is_name p.name && nat_le p.id.0 524271) (is_name p.network) b.0 in
    record { number = (and_parts (is_name p.name) (nat_le p.id.0 524271) d.0).1; address = b.1 }

pub port_fits : (c : Config) → IsTrue (has_config_form c) → (p : Port) → Contains c.ports p → PortFits p
port_fits c h p at = port_parts p (passes_at has_port_form c.ports p (lists c h).ports at)

-- ---- policies and their rules
pub record RuleFits (r : Rule) : Type 0 where
  pub protocol : has_protocol_form r.protocol ≡ true
  pub sources : are_ports r.source_ports ≡ true
  pub destinations : are_ports r.destination_ports ≡ true
  pub action : has_action_form r.action ≡ true

rule_parts : (r : Rule) → has_rule_form r ≡ true → RuleFits r
unfolding has_rule_form
rule_parts r h =
    let a = and_parts (has_end_form r.source && has_end_form r.destination && has_protocol_form r.protocol && is_range r.source_ports
    && is_range r.destination_ports) (has_action_form r.action) h in
    let b = and_parts (has_end_form r.source && has_end_form r.destination && has_protocol_form r.protocol && is_range r.source_ports)
    (is_range r.destination_ports) a.0 in
    let d = and_parts (has_end_form r.source && has_end_form r.destination && has_protocol_form r.protocol) (is_range r.source_ports) b.0 in
    let e = and_parts (has_end_form r.source && has_end_form r.destination) (has_protocol_form r.protocol) d.0 in
    record { protocol = e.1; sources = d.1; destinations = b.1; action = a.1 }

pub record PolicyFits (p : Policy) : Type 0 where
  pub sequence : nat_le p.sequence 65535 ≡ true
  pub rules : (r : Rule) → Contains p.rules r → RuleFits r

policy_parts : (p : Policy) → has_policy_form p ≡ true → PolicyFits p
unfolding has_policy_form
policy_parts p h =
    let a = and_parts (is_name p.name && nat_le p.sequence 65535) (list_all has_rule_form p.rules) h in
    record {
      sequence = (and_parts (is_name p.name) (nat_le p.sequence 65535) a.0).1;
      rules = λ r at. rule_parts r (passes_at has_rule_form p.rules r a.1 at);
    }

pub policy_fits : (c : Config) → IsTrue (has_config_form c) → (p : Policy) → Contains c.policies p → PolicyFits p
policy_fits c h p at = policy_parts p (passes_at has_policy_form c.policies p (lists c h).policies at)

-- ---- services and chains
service_number : (s : Service) → has_service_form s ≡ true → nat_le s.id.0 65535 ≡ true
unfolding has_service_form
service_number s h =
    let a = and_parts (is_name s.name && nat_le s.id.0 65535) (is_name s.node) h in
    (and_parts (is_name s.name) (nat_le s.id.0 65535) a.0).1

pub service_fits : (c : Config) → IsTrue (has_config_form c) → (s : Service) → Contains c.services s → nat_le s.id.0 65535 ≡ true
service_fits c h s at = service_number s (passes_at has_service_form c.services s (lists c h).services at)

some_hops : (d : Chain) → has_chain_form d ≡ true → 1 ≤ length d.hops
unfolding has_chain_form
some_hops d h = leb-true 1 (length d.hops) (and_parts (is_name d.name && list_all is_name d.hops) (nat_le 1 (length d.hops)) h).1

pub chain_has_hops : (c : Config) → IsTrue (has_config_form c) → (d : Chain) → Contains c.chains d → 1 ≤ length d.hops
chain_has_hops c h d at = some_hops d (passes_at has_chain_form c.chains d (lists c h).chains at)

-- ---- compute nodes
node_address : (n : Node) → has_node_form n ≡ true → is_node_address n.address.0 ≡ true
unfolding has_node_form
node_address n h =
    let a = and_parts (is_node_name n.name && is_node_address n.address.0 && list_all is_name n.controllers) (is_from_to 1 2 (length n.controllers)) h in
    let b = and_parts (is_node_name n.name && is_node_address n.address.0) (list_all is_name n.controllers) a.0 in
    (and_parts (is_node_name n.name) (is_node_address n.address.0) b.0).1

node_forms : (t : Topology) → IsTrue (has_topology_form t) → list_all has_node_form t.nodes ≡ true
unfolding has_topology_form
node_forms t h =
    let a = and_parts (is_as_number t.asn && list_all has_controller_form t.controllers && nat_le 1 (length t.controllers) && list_all has_node_form t.nodes)
    (nat_le 1 (length t.nodes)) h in
    (and_parts (is_as_number t.asn && list_all has_controller_form t.controllers && nat_le 1 (length t.controllers)) (list_all has_node_form t.nodes) a.0).1

pub node_fits : (t : Topology) → IsTrue (has_topology_form t) → (n : Node) → Contains t.nodes n → is_node_address n.address.0 ≡ true
node_fits t h n at = node_address n (passes_at has_node_form t.nodes n (node_forms t h) at)
