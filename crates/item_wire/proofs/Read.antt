-- Each item within its ranges has a record, which reads as it.
use Rattle.std.proofs.Common.{◌≡◌, ℕ, ◌<◌, ◌^◌, ◌&&◌, Bool, true, nat_eq, nat_le, nat_lt, leb, List, [], ◌∷◌, length, map, Option, Some, None, Ok, IsTrue, refl, arith}
use Rattle.std.specs.List.{list_all}
use Rattle.std.proofs.lemmas.Bool.{and_parts, leb-true, le-leb, ltb-true}
use Rattle.serde_json.specs.Data.{Data, string}
use Rattle.serde_json.specs.View.{items_of}
use Rattle.serde_json.specs.Events.{items_len}
use Rattle.ov_types.specs.Name.{is_name}
use Rattle.ov_types.specs.Prefix.{Block, is_prefix}
use Rattle.ov_types.specs.Texts.{address_text, prefix_text}
use Rattle.ov_types.specs.declared.numbers.InstanceId.{InstanceId}
use Rattle.ov_types.specs.declared.numbers.ServiceNo.{ServiceNo}
use Rattle.ov_types.specs.declared.objects.AclAction.{AclAction}
use Rattle.ov_types.specs.declared.objects.AclAction.TheVariants.{Pass, Deny, Enter}
use Rattle.ov_types.specs.declared.objects.AclRule.{AclRule}
use Rattle.ov_types.specs.declared.packet.Range16.{Range16}
use Rattle.ov_types.specs.declared.prefix.Addr.{Addr}
use Rattle.item_wire.specs.declared.item.Item.{Item}
use Rattle.item_wire.specs.declared.item.Item.TheVariants as I
use Rattle.item_wire.specs.declared.list.Count.{Count}
use Rattle.item_wire.specs.declared.list.Count.TheVariants.{AnyNumber, AtLeastOne, OneToFifteen}
use Rattle.ov_types.specs.Written.{address_of}
use Rattle.item_wire.specs.Entries.{is_from_to, allows, number_from, name_from, address_from, any_address_from, node_address_from, prefix_from, all_from, list_from, network_from, in_place, hop_from, protocol_from, ports_from, action_from, rule_number_from, rule_from}
use Rattle.item_wire.specs.Members.{in_member}
use Rattle.item_wire.specs.Ranges.{is_network, is_instance, is_attached_label, is_address, is_node_address, is_block, is_import, is_hop, is_protocol, are_ports, is_action, is_rule_number, is_rule, is_in_range}
use Rattle.item_wire.specs.Reading.{hello_of, instance_of, port_of, circuit_of, acl_of, use_of, no_instance_of, no_attach_of, no_acl_of, no_use_of, publish_of, unpublish_of, subscribe_of, unsubscribe_of, route_of, unroute_of, op_from, item_of}
use Rattle.item_wire.specs.Records.{number_record, address_record, prefix_record, list_record, import_record, hop_record, protocol_record, action_record, rule_record, record_of}
use Rattle.ov_types.proofs.OneText.{address_has_one_text, prefix_has_one_text}

zero_le : (n : ℕ) → leb 0 n ≡ true
zero_le n = le-leb 0 n (omega arith)

number : (low high n : ℕ) → is_from_to low high n ≡ true → number_from low high (number_record n) ≡ Some n
unfolding number_from
number low high n h = rw h refl

number_to : (high n : ℕ) → nat_le n high ≡ true → number_from 0 high (number_record n) ≡ Some n
number_to high n h = number 0 high n (rw (zero_le n, h) refl)

name : (text : List ℕ) → is_name text ≡ true → name_from (string text) ≡ Some text
unfolding name_from
name text h = rw h refl

address : (low high : ℕ) (a : Addr) → a.0 < 2 ^ 32 → is_from_to low high a.0 ≡ true → address_from low high (address_record a) ≡ Some a
unfolding address_from
address low high a small h =
    let text : address_of (address_text a.0) ≡ Some a.0 = (address_has_one_text (address_text a.0) a.0).1 (small, refl) in
    rw (text, h) refl

any_address : (a : Addr) → is_address a ≡ true → any_address_from (address_record a) ≡ Some a
any_address a h = address 0 0xffff_ffff a (omega (arith, leb-true a.0 0xffff_ffff h)) (rw (zero_le a.0, h) refl)

node_address : (a : Addr) → is_node_address a ≡ true → node_address_from (address_record a) ≡ Some a
node_address a h =
    let p = and_parts (nat_le 0x0100_0000 a.0) (nat_le a.0 0xdfff_ffff) h in
    address 0x0100_0000 0xdfff_ffff a (omega (arith, leb-true a.0 0xdfff_ffff p.1)) h

prefix : (b : Block) → is_block b ≡ true → prefix_from (prefix_record b) ≡ Some b
unfolding prefix_from
prefix b h =
    let p = and_parts (is_prefix b.addr b.len) (nat_lt b.addr (2 ^ 32)) h in
    (prefix_has_one_text (prefix_text b) b).1 (ltb-true b.addr (2 ^ 32) p.1, p.0, refl)

items_counted : {A : Type 0} (written : A → Data) (xs : List A) → items_len (items_of (map written xs)) ≡ length xs
items_counted written [] = refl
items_counted written (x ∷ xs) = rw (items_counted written xs) refl

items : {A : Type 0} (reads : Data → Option A) (is_fit : A → Bool) (written : A → Data) → ((x : A) → is_fit x ≡ true → reads (written x) ≡ Some x)
    → (xs : List A) → list_all is_fit xs ≡ true → all_from reads (items_of (map written xs)) ≡ Some xs
unfolding all_from
items reads is_fit written each [] h = refl
items reads is_fit written each (x ∷ xs) h =
    let p = and_parts (is_fit x) (list_all is_fit xs) h in
    rw (each x p.0, items reads is_fit written each xs p.1) refl

lists : {A : Type 0} (reads : Data → Option A) (is_fit : A → Bool) (written : A → Data) → ((x : A) → is_fit x ≡ true → reads (written x) ≡ Some x)
    → (count : Count) (xs : List A) → list_all is_fit xs ≡ true → allows count (length xs) ≡ true → list_from count reads (list_record written xs) ≡ Some xs
unfolding list_from
lists reads is_fit written each count xs h allowed =
    rw (items_counted written xs, allowed, items reads is_fit written each xs h) refl

import_ : (i : InstanceId) → is_import i ≡ true → network_from (import_record i) ≡ Some i
unfolding network_from
import_ i h = rw (number 1 16383 i.0 h) refl

hop : (h : ServiceNo × Addr) → is_hop h ≡ true → hop_from (hop_record h) ≡ Some h
unfolding hop_from in_place
hop h fit =
    let p = and_parts (nat_le h.0.0 65535) (is_node_address h.1) fit in
    rw (number_to 65535 h.0.0 p.0, node_address h.1 p.1) refl

prefixes : (xs : List Block) → list_all is_block xs ≡ true → list_from AnyNumber prefix_from (list_record prefix_record xs) ≡ Some xs
prefixes xs h = lists prefix_from is_block prefix_record prefix AnyNumber xs h refl

other : (n : ℕ) → nat_le n 255 ≡ true → nat_eq n 256 ≡ Rattle.std.proofs.Common.false
other n h = Rattle.std.proofs.lemmas.Bool.ne_eqb n 256 (λ e. absurd (omega (arith, leb-true n 255 h, e)))

protocol : (p : Option ℕ) → is_protocol p ≡ true → protocol_from (protocol_record p) ≡ Some p
unfolding protocol_from
protocol None h = rw (number_to 256 256 refl) refl
protocol (Some n) h =
    let le : nat_le n 256 ≡ true = le-leb n 256 (omega (arith, leb-true n 255 h)) in
    rw (number_to 256 n le, other n h) refl

action : (a : AclAction) → is_action a ≡ true → action_from (action_record a) ≡ Some a
unfolding action_from
action Pass h = refl
action Deny h = refl
action (Enter i) h = rw (number 16384 65535 i.0 h) refl

low_port : (r : Range16) → are_ports r ≡ true → nat_le r.lo 65535 ≡ true
low_port r h =
    let p = and_parts (nat_le r.lo r.hi) (nat_le r.hi 65535) h in
    le-leb r.lo 65535 (omega (arith, leb-true r.lo r.hi p.0, leb-true r.hi 65535 p.1))

sports : (r : AclRule) → are_ports r.sports ≡ true → ports_from 1 (rule_record r) ≡ Some r.sports
unfolding ports_from in_place
sports r h =
    let p = and_parts (nat_le r.sports.lo r.sports.hi) (nat_le r.sports.hi 65535) h in
    rw (number_to 65535 r.sports.lo (low_port r.sports h), number_to 65535 r.sports.hi p.1, p.0) refl

dports : (r : AclRule) → are_ports r.dports ≡ true → ports_from 3 (rule_record r) ≡ Some r.dports
unfolding ports_from in_place
dports r h =
    let p = and_parts (nat_le r.dports.lo r.dports.hi) (nat_le r.dports.hi 65535) h in
    rw (number_to 65535 r.dports.lo (low_port r.dports h), number_to 65535 r.dports.hi p.1, p.0) refl

rule_number : (r : AclRule) → is_rule_number r.rule ≡ true → rule_number_from (rule_record r) ≡ Some r.rule
unfolding rule_number_from in_place
rule_number r h =
    let p = and_parts (nat_le r.rule.sequence 65535) (is_from_to 1 16 r.rule.position) h in
    rw (number_to 65535 r.rule.sequence p.0, number 1 16 r.rule.position p.1) refl

rule : (r : AclRule) → is_rule r ≡ true → rule_from (rule_record r) ≡ Some r
unfolding rule_from in_place
rule r h =
    let a = and_parts (is_protocol r.protocol && are_ports r.sports && are_ports r.dports && is_action r.action) (is_rule_number r.rule) h in
    let b = and_parts (is_protocol r.protocol && are_ports r.sports && are_ports r.dports) (is_action r.action) a.0 in
    let c = and_parts (is_protocol r.protocol && are_ports r.sports) (are_ports r.dports) b.0 in
    let d = and_parts (is_protocol r.protocol) (are_ports r.sports) c.0 in
    rw (protocol r.protocol d.0, sports r d.1, dports r c.1, action r.action b.1, rule_number r a.1) refl

-- each item within its ranges is what its record reads as
pub item_is_read : (i : Item) → IsTrue (is_in_range i) → item_of (record_of i) ≡ Ok i
unfolding item_of op_from in_member hello_of instance_of port_of circuit_of acl_of use_of no_instance_of no_attach_of no_acl_of no_use_of publish_of unpublish_of subscribe_of unsubscribe_of route_of unroute_of
item_is_read (I.Hello text) h = rw (name text h) refl
item_is_read (I.Instance imports instance) h =
    let a = and_parts (list_all is_import imports && nat_le 1 (length imports)) (is_network instance.0) h in
    let b = and_parts (list_all is_import imports) (nat_le 1 (length imports)) a.0 in
    rw (lists network_from is_import import_record import_ AtLeastOne imports b.0 b.1, number 1 16383 instance.0 a.1) refl
item_is_read (I.Port address instance node port) h =
    let a = and_parts (is_address address && is_network instance.0 && is_node_address node) (nat_le port.0 524271) h in
    let b = and_parts (is_address address && is_network instance.0) (is_node_address node) a.0 in
    let c = and_parts (is_address address) (is_network instance.0) b.0 in
    rw (any_address address c.0, number 1 16383 instance.0 c.1, node_address node b.1, number_to 524271 port.0 a.1) refl
item_is_read (I.Circuit circuit node service) h =
    let a = and_parts (is_from_to 32769 131070 circuit && is_node_address node) (nat_le service.0 65535) h in
    let b = and_parts (is_from_to 32769 131070 circuit) (is_node_address node) a.0 in
    rw (number 32769 131070 circuit b.0, node_address node b.1, number_to 65535 service.0 a.1) refl
item_is_read (I.Acl from rules subnets to) h =
    let a = and_parts (is_network from && list_all is_rule rules && list_all is_block subnets) (is_network to) h in
    let b = and_parts (is_network from && list_all is_rule rules) (list_all is_block subnets) a.0 in
    let c = and_parts (is_network from) (list_all is_rule rules) b.0 in
    rw (number 1 16383 from c.0, lists rule_from is_rule rule_record rule AnyNumber rules c.1 refl, prefixes subnets b.1, number 1 16383 to a.1) refl
item_is_read (I.Use hops left left_prefixes right right_prefixes use_no) h =
    let a = and_parts (list_all is_hop hops && is_from_to 1 15 (length hops) && is_network left.0 && list_all is_block left_prefixes && is_network right.0 && list_all is_block right_prefixes) (nat_le use_no 3071) h in
    let b = and_parts (list_all is_hop hops && is_from_to 1 15 (length hops) && is_network left.0 && list_all is_block left_prefixes && is_network right.0) (list_all is_block right_prefixes) a.0 in
    let c = and_parts (list_all is_hop hops && is_from_to 1 15 (length hops) && is_network left.0 && list_all is_block left_prefixes) (is_network right.0) b.0 in
    let d = and_parts (list_all is_hop hops && is_from_to 1 15 (length hops) && is_network left.0) (list_all is_block left_prefixes) c.0 in
    let e = and_parts (list_all is_hop hops && is_from_to 1 15 (length hops)) (is_network left.0) d.0 in
    let f = and_parts (list_all is_hop hops) (is_from_to 1 15 (length hops)) e.0 in
    rw (
      lists hop_from is_hop hop_record hop OneToFifteen hops f.0 f.1,
      number 1 16383 left.0 e.1,
      prefixes left_prefixes d.1,
      number 1 16383 right.0 c.1,
      prefixes right_prefixes b.1,
      number_to 3071 use_no a.1,
    ) refl
item_is_read (I.NoInstance instance) h = rw (number 1 16383 instance.0 h) refl
item_is_read (I.NoAttach label) h = rw (number 16 655358 label.0 h) refl
item_is_read (I.NoAcl from to) h =
    let a = and_parts (is_network from) (is_network to) h in
    rw (number 1 16383 from a.0, number 1 16383 to a.1) refl
item_is_read (I.NoUse use_no) h = rw (number_to 3071 use_no h) refl
item_is_read (I.Publish instance label block) h =
    let a = and_parts (is_instance instance.0 && is_attached_label label.0) (is_block block) h in
    let b = and_parts (is_instance instance.0) (is_attached_label label.0) a.0 in
    rw (number 1 65535 instance.0 b.0, number 16 655358 label.0 b.1, prefix block a.1) refl
item_is_read (I.Unpublish instance block) h =
    let a = and_parts (is_instance instance.0) (is_block block) h in
    rw (number 1 65535 instance.0 a.0, prefix block a.1) refl
item_is_read (I.Subscribe instance) h = rw (number 1 65535 instance.0 h) refl
item_is_read (I.Unsubscribe instance) h = rw (number 1 65535 instance.0 h) refl
item_is_read (I.Route instance label next_hop block) h =
    let a = and_parts (is_instance instance.0 && nat_le label.0 1048575 && is_address next_hop) (is_block block) h in
    let b = and_parts (is_instance instance.0 && nat_le label.0 1048575) (is_address next_hop) a.0 in
    let c = and_parts (is_instance instance.0) (nat_le label.0 1048575) b.0 in
    rw (number 1 65535 instance.0 c.0, number_to 1048575 label.0 c.1, any_address next_hop b.1, prefix block a.1) refl
item_is_read (I.Unroute instance block) h =
    let a = and_parts (is_instance instance.0) (is_block block) h in
    rw (number 1 65535 instance.0 a.0, prefix block a.1) refl
