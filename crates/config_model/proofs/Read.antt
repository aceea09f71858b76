-- Each value of the written form has a document, which reads as it.
use Rattle.std.proofs.Common.{◌≡◌, ℕ, ◌+◌, ◌<◌, ◌^◌, ◌&&◌, Bool, true, false, not, nat_eq, nat_le, nat_lt, leb, List, [], ◌∷◌, length, Some, Ok, IsTrue, refl, sym, codes, arith}
use Rattle.std.specs.List.{list_all}
use Rattle.std.specs.Cmp.Lexicographic.{pointwise}
use Rattle.std.proofs.lemmas.Bool.{and_parts, leb-true, le-leb, ltb-true}
use Rattle.serde_json.specs.Data.{Data, string}
use Rattle.serde_json.specs.Events.{items_len}
use Rattle.ov_types.specs.Name.{is_name}
use Rattle.ov_types.specs.Prefix.{is_prefix}
use Rattle.ov_types.specs.Texts.{address_text, prefix_text}
use Rattle.ov_types.specs.declared.packet.Range16.{Range16}
use Rattle.ov_types.specs.declared.prefix.Addr.{Addr}
use Rattle.config_model.specs.declared.fields.Count.{Count}
use Rattle.config_model.specs.declared.fields.Count.TheVariants.{AnyNumber, AtLeastOne, OneOrTwo, Two}
use Rattle.config_types.specs.declared.config.Action.{Action}
use Rattle.config_types.specs.declared.config.Action.TheVariants.{Pass, Deny, Through}
use Rattle.config_types.specs.declared.config.Direction.{Direction}
use Rattle.config_types.specs.declared.config.Direction.TheVariants.{OneWay, BothWays}
use Rattle.config_types.specs.declared.config.End.{End}
use Rattle.config_types.specs.declared.config.End.TheVariants.{Any, Named}
use Rattle.config_types.specs.declared.config.Protocol.{Protocol}
use Rattle.config_types.specs.declared.config.Protocol.TheVariants as protocol
use Rattle.config_types.specs.declared.config.Rule.{Rule}
use Rattle.config_model.specs.Paths.{item_path}
use Rattle.ov_types.specs.Written.{address_of, block_of}
use Rattle.config_types.specs.Form.{is_from_to, is_as_number, is_reserved_as, is_node_name, is_node_address, is_network_name, is_range, has_end_form, has_protocol_form, has_action_form, has_controller_form, has_node_form, has_topology_form, has_network_form, has_port_form, has_policy_form, has_rule_form, has_service_form, has_chain_form, has_config_form, has_packet_form, is_block}
use Rattle.config_model.specs.Fields.{Reads, in_member, member_at, object_at, text_at, whole_at, name_at, name_but_at, address_at, prefix_at, only_at, allows, list_at, items_at, all_at, optional_all}
use Rattle.config_model.specs.Topology.{as_at, node_address_at, controller_at, node_at, topology_at}
use Rattle.config_model.specs.Rule.{direction_at, end_at, protocol_at, port_number_at, range_at, through_at, action_at, rule_at}
use Rattle.config_model.specs.Config.{network_at, port_at, policy_at, service_at, chain_at, config_at}
use Rattle.config_model.specs.Input.{packet_at, compile_at, reach_at}
use Rattle.config_model.specs.Documents.{items_of, list_document, number_document, prefix_document, controller_document, node_document, topology_document, network_document, port_document, direction_document, end_document, protocol_document, range_document, rule_document, policy_document, service_document, chain_document, config_document, packet_document, compile_document, reach_document}
use Rattle.config_model.specs.Laws.{IsRead, compile_form, reach_form}
use Rattle.ov_types.proofs.OneText.{address_has_one_text, prefix_has_one_text}

zero_le : (n : ℕ) → leb 0 n ≡ true
zero_le n = le-leb 0 n (omega arith)

not_false : (b : Bool) → not b ≡ true → b ≡ false
not_false true h = sym h
not_false false h = refl

pub name_is_read : (name : List ℕ) → is_name name ≡ true → (path : List ℕ) → name_at path (string name) ≡ Ok name
unfolding name_at text_at
name_is_read name h path = rw h refl

name_but_is_read : (reserved name : List ℕ) → (is_name name && not (pointwise nat_eq name reserved)) ≡ true → (path : List ℕ) → name_but_at reserved path (string name) ≡ Ok name
unfolding name_but_at
name_but_is_read reserved name h path =
    let p = and_parts (is_name name) (not (pointwise nat_eq name reserved)) h in
    rw (name_is_read name p.0 path, p.1) refl

pub whole_is_read : (low high n : ℕ) → is_from_to low high n ≡ true → (path : List ℕ) → whole_at low high path (number_document n) ≡ Ok n
unfolding whole_at
whole_is_read low high n h path = rw h refl

whole_to_is_read : (high n : ℕ) → nat_le n high ≡ true → (path : List ℕ) → whole_at 0 high path (number_document n) ≡ Ok n
whole_to_is_read high n h path = whole_is_read 0 high n (rw (zero_le n, h) refl) path

address_is_read : (low high : ℕ) (a : Addr) → a.0 < 2 ^ 32 → is_from_to low high a.0 ≡ true → (path : List ℕ) → address_at low high path (string (address_text a.0)) ≡ Ok a
unfolding address_at text_at
address_is_read low high a small h path =
    let text : address_of (address_text a.0) ≡ Some a.0 = (address_has_one_text (address_text a.0) a.0).1 (small, refl) in
    rw (text, h) refl

any_address_is_read : (a : Addr) → nat_le a.0 0xffff_ffff ≡ true → (path : List ℕ) → address_at 0 0xffff_ffff path (string (address_text a.0)) ≡ Ok a
any_address_is_read a h path = address_is_read 0 0xffff_ffff a (omega (arith, leb-true a.0 0xffff_ffff h)) (rw (zero_le a.0, h) refl) path

node_address_is_read : (a : Addr) → is_node_address a.0 ≡ true → (path : List ℕ) → node_address_at path (string (address_text a.0)) ≡ Ok a
node_address_is_read a h path =
    let p = and_parts (nat_le 0x0100_0000 a.0) (nat_le a.0 0xdfff_ffff) h in
    address_is_read 0x0100_0000 0xdfff_ffff a (omega (arith, leb-true a.0 0xdfff_ffff p.1)) h path

prefix_is_read : IsRead prefix_at is_block prefix_document
unfolding prefix_at text_at
prefix_is_read b h path =
    let p = and_parts (is_prefix b.addr b.len) (nat_lt b.addr (2 ^ 32)) h in
    let text : block_of (prefix_text b) ≡ Some b = (prefix_has_one_text (prefix_text b) b).1 (ltb-true b.addr (2 ^ 32) p.1, p.0, refl) in
    rw text refl

items_are_read : {A : Type 0} (reads : Reads A) (form : A → Bool) (document : A → Data) → IsRead reads form document → (path : List ℕ) (i : ℕ) (xs : List A) → list_all form xs ≡ true → items_at reads path i (items_of document xs) ≡ Ok xs
unfolding items_at
items_are_read reads form document each path i [] h = refl
items_are_read reads form document each path i (x ∷ xs) h =
    let p = and_parts (form x) (list_all form xs) h in
    rw (each x p.0 (item_path path i), items_are_read reads form document each path (i + 1) xs p.1) refl

items_counted : {A : Type 0} (document : A → Data) (xs : List A) → items_len (items_of document xs) ≡ length xs
items_counted document [] = refl
items_counted document (x ∷ xs) = rw (items_counted document xs) refl

-- a list reads as the values whose documents are its items
pub list_is_read : {A : Type 0} (reads : Reads A) (form : A → Bool) (document : A → Data) → IsRead reads form document → (count : Count) (xs : List A)
    → list_all form xs ≡ true → allows count (length xs) ≡ true → (path : List ℕ) → all_at reads count path (list_document document xs) ≡ Ok xs
unfolding all_at list_at
list_is_read reads form document each count xs h allowed path =
    rw (items_counted document xs, allowed, items_are_read reads form document each path 0 xs h) refl

pub controller_is_read : IsRead controller_at has_controller_form controller_document
unfolding controller_at in_member member_at object_at only_at has_controller_form
controller_is_read n h path =
    let p = and_parts (is_node_name n.name) (is_node_address n.address.0) h in
    rw (name_but_is_read (codes "config") n.name p.0, node_address_is_read n.address p.1) refl

pub node_is_read : IsRead node_at has_node_form node_document
unfolding node_at in_member member_at object_at only_at has_node_form
node_is_read n h path =
    let p = and_parts (is_node_name n.name && is_node_address n.address.0 && list_all is_name n.controllers) (is_from_to 1 2 (length n.controllers)) h in
    let q = and_parts (is_node_name n.name && is_node_address n.address.0) (list_all is_name n.controllers) p.0 in
    let r = and_parts (is_node_name n.name) (is_node_address n.address.0) q.0 in
    rw (name_but_is_read (codes "config") n.name r.0, node_address_is_read n.address r.1, list_is_read name_at is_name string name_is_read OneOrTwo n.controllers q.1 p.1) refl

as_is_read : (n : ℕ) → is_as_number n ≡ true → (path : List ℕ) → as_at path (number_document n) ≡ Ok n
unfolding as_at
as_is_read n h path =
    let p = and_parts (is_from_to 1 4294967294 n) (not (is_reserved_as n)) h in
    rw (whole_is_read 1 4294967294 n p.0, p.1) refl

pub topology_is_read : IsRead topology_at has_topology_form topology_document
unfolding topology_at in_member member_at object_at only_at has_topology_form
topology_is_read t h path =
    let p = and_parts (is_as_number t.asn && list_all has_controller_form t.controllers && nat_le 1 (length t.controllers) && list_all has_node_form t.nodes) (nat_le 1 (length t.nodes)) h in
    let q = and_parts (is_as_number t.asn && list_all has_controller_form t.controllers && nat_le 1 (length t.controllers)) (list_all has_node_form t.nodes) p.0 in
    let r = and_parts (is_as_number t.asn && list_all has_controller_form t.controllers) (nat_le 1 (length t.controllers)) q.0 in
    let s = and_parts (is_as_number t.asn) (list_all has_controller_form t.controllers) r.0 in
    rw (
      as_is_read t.asn s.0,
      list_is_read controller_at has_controller_form controller_document controller_is_read AtLeastOne t.controllers s.1 r.1,
      list_is_read node_at has_node_form node_document node_is_read AtLeastOne t.nodes q.1 p.1,
    ) refl

pub network_is_read : IsRead network_at has_network_form network_document
unfolding network_at in_member member_at object_at only_at optional_all has_network_form
network_is_read n h path =
    let p = and_parts (is_network_name n.name && is_from_to 1 16383 n.id.0 && list_all is_block n.subnets) (list_all is_name n.policies) h in
    let q = and_parts (is_network_name n.name && is_from_to 1 16383 n.id.0) (list_all is_block n.subnets) p.0 in
    let r = and_parts (is_network_name n.name) (is_from_to 1 16383 n.id.0) q.0 in
    rw (
      name_but_is_read (codes "any") n.name r.0,
      whole_is_read 1 16383 n.id.0 r.1,
      list_is_read prefix_at is_block prefix_document prefix_is_read AnyNumber n.subnets q.1 refl,
      list_is_read name_at is_name string name_is_read AnyNumber n.policies p.1 refl,
    ) refl

pub port_is_read : IsRead port_at has_port_form port_document
unfolding port_at in_member member_at object_at only_at has_port_form
port_is_read n h path =
    let p = and_parts (is_name n.name && nat_le n.id.0 524271 && is_name n.network && nat_le n.address.0 0xffff_ffff) (is_name n.node) h in
    let q = and_parts (is_name n.name && nat_le n.id.0 524271 && is_name n.network) (nat_le n.address.0 0xffff_ffff) p.0 in
    let r = and_parts (is_name n.name && nat_le n.id.0 524271) (is_name n.network) q.0 in
    let s = and_parts (is_name n.name) (nat_le n.id.0 524271) r.0 in
    rw (name_is_read n.name s.0, whole_to_is_read 524271 n.id.0 s.1, name_is_read n.network r.1, any_address_is_read n.address q.1, name_is_read n.node p.1) refl

direction_is_read : (d : Direction) (path : List ℕ) → direction_at path (direction_document d) ≡ Ok d
unfolding direction_at text_at
direction_is_read OneWay path = refl
direction_is_read BothWays path = refl

end_is_read : IsRead end_at has_end_form end_document
unfolding end_at
end_is_read Any h path = rw (name_is_read (codes "any") refl path) refl
end_is_read (Named name) h path =
    let p = and_parts (is_name name) (not (pointwise nat_eq name (codes "any"))) h in
    rw (name_is_read name p.0 path, not_false (pointwise nat_eq name (codes "any")) p.1) refl

protocol_is_read : IsRead protocol_at has_protocol_form protocol_document
unfolding protocol_at
protocol_is_read protocol.Any h path = refl
protocol_is_read (protocol.Number n) h path = rw (whole_to_is_read 255 n h path) refl

range_is_read : IsRead range_at is_range range_document
unfolding range_at
range_is_read r h path =
    let p = and_parts (nat_le r.lo r.hi) (nat_le r.hi 65535) h in
    let lo : nat_le r.lo 65535 ≡ true = le-leb r.lo 65535 (omega (arith, leb-true r.lo r.hi p.0, leb-true r.hi 65535 p.1)) in
    let both : list_all (λ n. nat_le n 65535) (r.lo ∷ r.hi ∷ []) ≡ true = rw (lo, p.1) refl in
    rw (list_is_read port_number_at (λ n. nat_le n 65535) number_document (whole_to_is_read 65535) Two (r.lo ∷ r.hi ∷ []) both refl path, p.0) refl

-- the parts of a rule are of the written form
record HasForm (r : Rule) : Type 0 where
  source : has_end_form r.source ≡ true
  destination : has_end_form r.destination ≡ true
  protocol : has_protocol_form r.protocol ≡ true
  source_ports : is_range r.source_ports ≡ true
  destination_ports : is_range r.destination_ports ≡ true
  action : has_action_form r.action ≡ true

form_of : (r : Rule) → IsTrue (has_rule_form r) → HasForm r
unfolding has_rule_form
form_of r h =
    let a = and_parts (has_end_form r.source && has_end_form r.destination && has_protocol_form r.protocol && is_range r.source_ports && is_range r.destination_ports) (has_action_form r.action) h in
    let b = and_parts (has_end_form r.source && has_end_form r.destination && has_protocol_form r.protocol && is_range r.source_ports) (is_range r.destination_ports) a.0 in
    let c = and_parts (has_end_form r.source && has_end_form r.destination && has_protocol_form r.protocol) (is_range r.source_ports) b.0 in
    let d = and_parts (has_end_form r.source && has_end_form r.destination) (has_protocol_form r.protocol) c.0 in
    let e = and_parts (has_end_form r.source) (has_end_form r.destination) d.0 in
    record { source = e.0; destination = e.1; protocol = d.1; source_ports = c.1; destination_ports = b.1; action = a.1 }

rule_reads : (direction : Direction) (source destination : End) (protocol : Protocol) (source_ports destination_ports : Range16) (action : Action)
    → HasForm (record { direction = direction; source = source; destination = destination; protocol = protocol; source_ports = source_ports; destination_ports = destination_ports; action = action })
    → (path : List ℕ)
    → rule_at path (rule_document (record { direction = direction; source = source; destination = destination; protocol = protocol; source_ports = source_ports; destination_ports = destination_ports; action = action }))
    ≡ Ok (record { direction = direction; source = source; destination = destination; protocol = protocol; source_ports = source_ports; destination_ports = destination_ports; action = action })
unfolding rule_at in_member member_at object_at only_at action_at through_at text_at
rule_reads direction source destination protocol source_ports destination_ports Pass f path =
    rw (
      direction_is_read direction,
      end_is_read source f.source,
      end_is_read destination f.destination,
      protocol_is_read protocol f.protocol,
      range_is_read source_ports f.source_ports,
      range_is_read destination_ports f.destination_ports,
    ) refl
rule_reads direction source destination protocol source_ports destination_ports Deny f path =
    rw (
      direction_is_read direction,
      end_is_read source f.source,
      end_is_read destination f.destination,
      protocol_is_read protocol f.protocol,
      range_is_read source_ports f.source_ports,
      range_is_read destination_ports f.destination_ports,
    ) refl
rule_reads direction source destination protocol source_ports destination_ports (Through chain number) f path =
    let p = and_parts (is_name chain) (nat_le number 3071) f.action in
    rw (
      direction_is_read direction,
      end_is_read source f.source,
      end_is_read destination f.destination,
      protocol_is_read protocol f.protocol,
      range_is_read source_ports f.source_ports,
      range_is_read destination_ports f.destination_ports,
      name_is_read chain p.0,
      whole_to_is_read 3071 number p.1,
    ) refl

pub rule_is_read : IsRead rule_at has_rule_form rule_document
rule_is_read r h path = rule_reads r.direction r.source r.destination r.protocol r.source_ports r.destination_ports r.action (form_of r h) path

pub policy_is_read : IsRead policy_at has_policy_form policy_document
unfolding policy_at in_member member_at object_at only_at has_policy_form
policy_is_read n h path =
    let p = and_parts (is_name n.name && nat_le n.sequence 65535) (list_all has_rule_form n.rules) h in
    let q = and_parts (is_name n.name) (nat_le n.sequence 65535) p.0 in
    rw (name_is_read n.name q.0, whole_to_is_read 65535 n.sequence q.1, list_is_read rule_at has_rule_form rule_document rule_is_read AnyNumber n.rules p.1 refl) refl

pub service_is_read : IsRead service_at has_service_form service_document
unfolding service_at in_member member_at object_at only_at has_service_form
service_is_read n h path =
    let p = and_parts (is_name n.name && nat_le n.id.0 65535) (is_name n.node) h in
    let q = and_parts (is_name n.name) (nat_le n.id.0 65535) p.0 in
    rw (name_is_read n.name q.0, whole_to_is_read 65535 n.id.0 q.1, name_is_read n.node p.1) refl

pub chain_is_read : IsRead chain_at has_chain_form chain_document
unfolding chain_at in_member member_at object_at only_at has_chain_form
chain_is_read n h path =
    let p = and_parts (is_name n.name && list_all is_name n.hops) (nat_le 1 (length n.hops)) h in
    let q = and_parts (is_name n.name) (list_all is_name n.hops) p.0 in
    rw (name_is_read n.name q.0, list_is_read name_at is_name string name_is_read AtLeastOne n.hops q.1 p.1) refl

pub config_is_read : IsRead config_at has_config_form config_document
unfolding config_at object_at only_at optional_all has_config_form
config_is_read c h path =
    let p = and_parts (list_all has_network_form c.networks && list_all has_port_form c.ports && list_all has_policy_form c.policies && list_all has_service_form c.services) (list_all has_chain_form c.chains) h in
    let q = and_parts (list_all has_network_form c.networks && list_all has_port_form c.ports && list_all has_policy_form c.policies) (list_all has_service_form c.services) p.0 in
    let r = and_parts (list_all has_network_form c.networks && list_all has_port_form c.ports) (list_all has_policy_form c.policies) q.0 in
    let s = and_parts (list_all has_network_form c.networks) (list_all has_port_form c.ports) r.0 in
    rw (
      list_is_read network_at has_network_form network_document network_is_read AnyNumber c.networks s.0 refl,
      list_is_read port_at has_port_form port_document port_is_read AnyNumber c.ports s.1 refl,
      list_is_read policy_at has_policy_form policy_document policy_is_read AnyNumber c.policies r.1 refl,
      list_is_read service_at has_service_form service_document service_is_read AnyNumber c.services q.1 refl,
      list_is_read chain_at has_chain_form chain_document chain_is_read AnyNumber c.chains p.1 refl,
    ) refl

pub packet_is_read : IsRead packet_at has_packet_form packet_document
unfolding packet_at in_member member_at object_at only_at has_packet_form
packet_is_read n h path =
    let p = and_parts (nat_le n.source.0 524271 && nat_le n.destination.0 0xffff_ffff && nat_le n.tuple.proto 255 && nat_le n.tuple.sport 65535) (nat_le n.tuple.dport 65535) h in
    let q = and_parts (nat_le n.source.0 524271 && nat_le n.destination.0 0xffff_ffff && nat_le n.tuple.proto 255) (nat_le n.tuple.sport 65535) p.0 in
    let r = and_parts (nat_le n.source.0 524271 && nat_le n.destination.0 0xffff_ffff) (nat_le n.tuple.proto 255) q.0 in
    let s = and_parts (nat_le n.source.0 524271) (nat_le n.destination.0 0xffff_ffff) r.0 in
    rw (
      whole_to_is_read 524271 n.source.0 s.0,
      any_address_is_read n.destination s.1,
      whole_to_is_read 255 n.tuple.proto r.1,
      whole_to_is_read 65535 n.tuple.sport q.1,
      whole_to_is_read 65535 n.tuple.dport p.1,
    ) refl

pub compile_is_read : IsRead compile_at compile_form compile_document
unfolding compile_at in_member member_at object_at only_at
compile_is_read i h path =
    let p = and_parts (has_topology_form i.topology) (has_config_form i.config) h in
    rw (topology_is_read i.topology p.0, config_is_read i.config p.1) refl

pub reach_is_read : IsRead reach_at reach_form reach_document
unfolding reach_at in_member member_at object_at only_at
reach_is_read r h path =
    let o = and_parts (compile_form r.input) (list_all has_packet_form r.packets) h in
    let p = and_parts (has_topology_form r.input.topology) (has_config_form r.input.config) o.0 in
    rw (
      topology_is_read r.input.topology p.0,
      config_is_read r.input.config p.1,
      list_is_read packet_at has_packet_form packet_document packet_is_read AnyNumber r.packets o.1 refl,
    ) refl
