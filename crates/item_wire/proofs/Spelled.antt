-- What is written of an item is read as it.
use Rattle.std.proofs.Common.{◌≡◌, ℕ, ◌<◌, ◌^◌, ◌/◌, ◌%◌, ◌&&◌, ◌==◌, Bool, true, IsTrue, List, [], ◌∷◌, length, map, drop, nat_le, nat_lt, Option, Some, None, Ok, IsUtf8, decimal, codes, refl, sym, ap, ◌∙◌, arith}
use Rattle.std.specs.List.{list_all}
use Rattle.std.proofs.lemmas.Bool.{and_parts, leb-true, ltb-true}
use Rattle.std.proofs.lemmas.List.{drop_at}
use Rattle.std.proofs.lemmas.Str.{IsUtf8-append, IsUtf8-from_ascii}
use Rattle.std.proofs.lemmas.Fmt.{IsAscii-decimal}
use Rattle.json.proofs.Printed.Utf8.{are_ascii, IsUtf8-are_ascii}
use Rattle.byteorder.specs.Endian.{big_bytes}
use Rattle.serde_json.specs.Data.{Data, null, boolean, number, string, array, object, no_members}
use Rattle.serde_json.specs.View.{items_of}
use Rattle.serde_json.specs.Written.{compact_text}
use Rattle.serde_json.specs.Read.{read}
use Rattle.ov_types.specs.Prefix.{Block, is_prefix, size_of}
use Rattle.ov_types.specs.Texts.{address_text, prefix_text}
use Rattle.ov_types.proofs.Names.{name_is_utf8}
use Rattle.ov_types.specs.declared.numbers.InstanceId.{InstanceId}
use Rattle.ov_types.specs.declared.numbers.ServiceNo.{ServiceNo}
use Rattle.ov_types.specs.declared.objects.AclAction.{AclAction}
use Rattle.ov_types.specs.declared.objects.AclAction.TheVariants.{Pass, Deny, Enter}
use Rattle.ov_types.specs.declared.objects.AclRule.{AclRule}
use Rattle.ov_types.specs.declared.packet.Range16.{Range16}
use Rattle.ov_types.specs.declared.prefix.Addr.{Addr}
use Rattle.item_wire.specs.declared.item.Item.{Item}
use Rattle.item_wire.specs.declared.item.Item.TheVariants as I
use Rattle.item_wire.specs.Entries.{is_from_to}
use Rattle.item_wire.specs.Ranges.{is_network, is_instance, is_attached_label, is_address, is_node_address, is_block, is_import, is_hop, is_protocol, are_ports, is_action, is_rule_number, is_rule, is_in_range}
use Rattle.ov_io.specs.Json.{json_of}
use Rattle.item_wire.specs.Reading.{item_in}
use Rattle.item_wire.specs.Records.{prefix_record, import_record, hop_record, protocol_record, action_record, rule_record, record_of, json_text, spelling}
use Rattle.ov_io.proofs.JsonLaws.{json_of_text}
use Rattle.item_wire.proofs.Plain.{IsPlain, ArePlain, PlainMembers, read_one_by_one, object_is_text, object_is_read}
use Rattle.item_wire.proofs.Read.{item_is_read}

-- numbers within a range have 64 bits
small : (high n : ℕ) → nat_le n high ≡ true → high < 2 ^ 64 → n < 2 ^ 64
small high n h fits = omega (arith, leb-true n high h, fits)

within : (low high n : ℕ) → is_from_to low high n ≡ true → high < 2 ^ 64 → n < 2 ^ 64
within low high n h fits = small high n (and_parts (nat_le low n) (nat_le n high) h).1 fits

network : (n : ℕ) → is_network n ≡ true → n < 2 ^ 64
network n h = within 1 16383 n h (omega arith)

instance : (n : ℕ) → is_instance n ≡ true → n < 2 ^ 64
instance n h = within 1 65535 n h (omega arith)

-- texts
word : (s : List ℕ) → are_ascii s ≡ true → IsUtf8 s
word s h = IsUtf8-are_ascii s h

digits : (n : ℕ) → n < 2 ^ 64 → IsUtf8 (decimal n)
digits n h = IsUtf8-from_ascii (decimal n) (IsAscii-decimal n h)

address : (n : ℕ) → IsUtf8 (address_text n)
address n =
    IsUtf8-append _ _ (digits (n / 16777216 % 256) (omega arith)) (IsUtf8-append _ _ (word (codes ".") refl)
    (IsUtf8-append _ _ (digits (n / 65536 % 256) (omega arith)) (IsUtf8-append _ _ (word (codes ".") refl)
    (IsUtf8-append _ _ (digits (n / 256 % 256) (omega arith)) (IsUtf8-append _ _ (word (codes ".") refl) (digits (n % 256) (omega arith)))))))

prefix : (b : Block) → is_block b ≡ true → IsUtf8 (prefix_text b)
prefix b h =
    let p = and_parts (is_prefix b.addr b.len) (nat_lt b.addr (2 ^ 32)) h in
    let q = and_parts (nat_lt b.len 33) (b.addr % size_of b.len == 0) p.0 in
    IsUtf8-append _ _ (address b.addr) (IsUtf8-append _ _ (word (codes "/") refl) (digits b.len (omega (arith, ltb-true b.len 33 q.0))))

lists : {A : Type 0} (is_fit : A → Bool) (written : A → Data) → ((x : A) → is_fit x ≡ true → IsPlain 1 (written x)) → (xs : List A) → list_all is_fit xs ≡ true → ArePlain 1 (items_of (map written xs))
lists is_fit written each [] h = tt
lists is_fit written each (x ∷ xs) h =
    let p = and_parts (is_fit x) (list_all is_fit xs) h in
    (each x p.0, lists is_fit written each xs p.1)

import_ : (i : InstanceId) → is_import i ≡ true → IsPlain 1 (import_record i)
import_ i h = network i.0 h

hop : (h : ServiceNo × Addr) → is_hop h ≡ true → IsPlain 1 (hop_record h)
hop h fit =
    let p = and_parts (nat_le h.0.0 65535) (is_node_address h.1) fit in
    (small 65535 h.0.0 p.0 (omega arith), (address h.1.0, tt))

prefixes : (xs : List Block) → list_all is_block xs ≡ true → ArePlain 1 (items_of (map prefix_record xs))
prefixes xs h = lists is_block prefix_record prefix xs h

protocol : (p : Option ℕ) → is_protocol p ≡ true → IsPlain 0 (protocol_record p)
protocol None h = omega arith
protocol (Some n) h = small 255 n h (omega arith)

action : (a : AclAction) → is_action a ≡ true → IsPlain 0 (action_record a)
action Pass h = word (codes "pass") refl
action Deny h = word (codes "deny") refl
action (Enter i) h = within 16384 65535 i.0 h (omega arith)

ports : (r : Range16) → are_ports r ≡ true → (r.lo < 2 ^ 64) × (r.hi < 2 ^ 64)
ports r h =
    let p = and_parts (nat_le r.lo r.hi) (nat_le r.hi 65535) h in
    (omega (arith, leb-true r.lo r.hi p.0, leb-true r.hi 65535 p.1), omega (arith, leb-true r.hi 65535 p.1))

rule : (r : AclRule) → is_rule r ≡ true → IsPlain 1 (rule_record r)
rule r h =
    let a = and_parts (is_protocol r.protocol && are_ports r.sports && are_ports r.dports && is_action r.action) (is_rule_number r.rule) h in
    let b = and_parts (is_protocol r.protocol && are_ports r.sports && are_ports r.dports) (is_action r.action) a.0 in
    let c = and_parts (is_protocol r.protocol && are_ports r.sports) (are_ports r.dports) b.0 in
    let d = and_parts (is_protocol r.protocol) (are_ports r.sports) c.0 in
    let e = and_parts (nat_le r.rule.sequence 65535) (is_from_to 1 16 r.rule.position) a.1 in
    let s = ports r.sports d.1 in
    let t = ports r.dports c.1 in
    (protocol r.protocol d.0, (s.0, (s.1, (t.0, (t.1, (action r.action b.1, (small 65535 r.rule.sequence e.0 (omega arith), (within 1 16 r.rule.position e.1 (omega arith), tt))))))))

-- an object of plain members that are in order
abbrev PlainRecord : Data → Type 0
PlainRecord null = ⊥
PlainRecord (boolean b) = ⊥
PlainRecord (number n) = ⊥
PlainRecord (string s) = ⊥
PlainRecord (array ds) = ⊥
PlainRecord (object ms) = PlainMembers 2 ms × (read_one_by_one ms no_members ≡ ms)

record_is_plain : (i : Item) → is_in_range i ≡ true → PlainRecord (record_of i)
record_is_plain (I.Hello text) h = ((word (codes "name") refl, name_is_utf8 text h, (word (codes "op") refl, word (codes "hello") refl, tt)), refl)
record_is_plain (I.Instance imports i) h =
    let a = and_parts (list_all is_import imports && nat_le 1 (length imports)) (is_network i.0) h in
    let b = and_parts (list_all is_import imports) (nat_le 1 (length imports)) a.0 in
    ((word (codes "imports") refl, lists is_import import_record import_ imports b.0, (word (codes "instance") refl, network i.0 a.1, (word (codes "op") refl, word (codes "instance") refl, tt))), refl)
record_is_plain (I.Port host i node port) h =
    let a = and_parts (is_address host && is_network i.0 && is_node_address node) (nat_le port.0 524271) h in
    let b = and_parts (is_address host && is_network i.0) (is_node_address node) a.0 in
    let c = and_parts (is_address host) (is_network i.0) b.0 in
    ((word (codes "address") refl, address host.0, (word (codes "instance") refl, network i.0 c.1, (word (codes "node") refl, address node.0, (word (codes "op") refl, word (codes "port") refl, (word (codes "port") refl, small 524271 port.0 a.1 (omega arith), tt))))), refl)
record_is_plain (I.Circuit circuit node service) h =
    let a = and_parts (is_from_to 32769 131070 circuit && is_node_address node) (nat_le service.0 65535) h in
    let b = and_parts (is_from_to 32769 131070 circuit) (is_node_address node) a.0 in
    ((word (codes "circuit") refl, within 32769 131070 circuit b.0 (omega arith), (word (codes "node") refl, address node.0, (word (codes "op") refl, word (codes "circuit") refl, (word (codes "service") refl, small 65535 service.0 a.1 (omega arith), tt)))), refl)
record_is_plain (I.Acl from rules subnets to) h =
    let a = and_parts (is_network from && list_all is_rule rules && list_all is_block subnets) (is_network to) h in
    let b = and_parts (is_network from && list_all is_rule rules) (list_all is_block subnets) a.0 in
    let c = and_parts (is_network from) (list_all is_rule rules) b.0 in
    ((word (codes "from") refl, network from c.0, (word (codes "op") refl, word (codes "acl") refl, (word (codes "rules") refl, lists is_rule rule_record rule rules c.1, (word (codes "subnets") refl, prefixes subnets b.1, (word (codes "to") refl, network to a.1, tt))))), refl)
record_is_plain (I.Use hops left left_prefixes right right_prefixes use_no) h =
    let a = and_parts (list_all is_hop hops && is_from_to 1 15 (length hops) && is_network left.0 && list_all is_block left_prefixes && is_network right.0 && list_all is_block right_prefixes) (nat_le use_no 3071) h in
    let b = and_parts (list_all is_hop hops && is_from_to 1 15 (length hops) && is_network left.0 && list_all is_block left_prefixes && is_network right.0) (list_all is_block right_prefixes) a.0 in
    let c = and_parts (list_all is_hop hops && is_from_to 1 15 (length hops) && is_network left.0 && list_all is_block left_prefixes) (is_network right.0) b.0 in
    let d = and_parts (list_all is_hop hops && is_from_to 1 15 (length hops) && is_network left.0) (list_all is_block left_prefixes) c.0 in
    let e = and_parts (list_all is_hop hops && is_from_to 1 15 (length hops)) (is_network left.0) d.0 in
    let f = and_parts (list_all is_hop hops) (is_from_to 1 15 (length hops)) e.0 in
    ((word (codes "hops") refl, lists is_hop hop_record hop hops f.0, (word (codes "left") refl, network left.0 e.1, (word (codes "left_prefixes") refl, prefixes left_prefixes d.1, (word (codes "op") refl, word (codes "use") refl, (word (codes "right") refl, network right.0 c.1, (word (codes "right_prefixes") refl, prefixes right_prefixes b.1, (word (codes "use") refl, small 3071 use_no a.1 (omega arith), tt))))))), refl)
record_is_plain (I.NoInstance i) h = ((word (codes "instance") refl, network i.0 h, (word (codes "op") refl, word (codes "no-instance") refl, tt)), refl)
record_is_plain (I.NoAttach label) h = ((word (codes "label") refl, within 16 655358 label.0 h (omega arith), (word (codes "op") refl, word (codes "no-attach") refl, tt)), refl)
record_is_plain (I.NoAcl from to) h =
    let a = and_parts (is_network from) (is_network to) h in
    ((word (codes "from") refl, network from a.0, (word (codes "op") refl, word (codes "no-acl") refl, (word (codes "to") refl, network to a.1, tt))), refl)
record_is_plain (I.NoUse use_no) h = ((word (codes "op") refl, word (codes "no-use") refl, (word (codes "use") refl, small 3071 use_no h (omega arith), tt)), refl)
record_is_plain (I.Publish i label block) h =
    let a = and_parts (is_instance i.0 && is_attached_label label.0) (is_block block) h in
    let b = and_parts (is_instance i.0) (is_attached_label label.0) a.0 in
    ((word (codes "instance") refl, instance i.0 b.0, (word (codes "label") refl, within 16 655358 label.0 b.1 (omega arith), (word (codes "op") refl, word (codes "publish") refl, (word (codes "prefix") refl, prefix block a.1, tt)))), refl)
record_is_plain (I.Unpublish i block) h =
    let a = and_parts (is_instance i.0) (is_block block) h in
    ((word (codes "instance") refl, instance i.0 a.0, (word (codes "op") refl, word (codes "unpublish") refl, (word (codes "prefix") refl, prefix block a.1, tt))), refl)
record_is_plain (I.Subscribe i) h = ((word (codes "instance") refl, instance i.0 h, (word (codes "op") refl, word (codes "subscribe") refl, tt)), refl)
record_is_plain (I.Unsubscribe i) h = ((word (codes "instance") refl, instance i.0 h, (word (codes "op") refl, word (codes "unsubscribe") refl, tt)), refl)
record_is_plain (I.Route i label next_hop block) h =
    let a = and_parts (is_instance i.0 && nat_le label.0 1048575 && is_address next_hop) (is_block block) h in
    let b = and_parts (is_instance i.0 && nat_le label.0 1048575) (is_address next_hop) a.0 in
    let c = and_parts (is_instance i.0) (nat_le label.0 1048575) b.0 in
    ((word (codes "instance") refl, instance i.0 c.0, (word (codes "label") refl, small 1048575 label.0 c.1 (omega arith), (word (codes "next_hop") refl, address next_hop.0, (word (codes "op") refl, word (codes "route") refl, (word (codes "prefix") refl, prefix block a.1, tt))))), refl)
record_is_plain (I.Unroute i block) h =
    let a = and_parts (is_instance i.0) (is_block block) h in
    ((word (codes "instance") refl, instance i.0 a.0, (word (codes "op") refl, word (codes "unroute") refl, (word (codes "prefix") refl, prefix block a.1, tt))), refl)

plain_reads : (d : Data) → PlainRecord d → IsUtf8 (compact_text d) × (read (compact_text d) ≡ Some d)
plain_reads null h = absurd h
plain_reads (boolean b) h = absurd h
plain_reads (number n) h = absurd h
plain_reads (string s) h = absurd h
plain_reads (array ds) h = absurd h
plain_reads (object ms) h = (object_is_text 2 ms h.0, object_is_read 2 ms h.0 h.1 (omega arith))

-- the JSON of an item is read as it
pub item_reads : (i : Item) → IsTrue (is_in_range i) → item_in (json_text i) ≡ Ok i
unfolding item_in
item_reads i h =
    let p = plain_reads (record_of i) (record_is_plain i h) in
    let value : json_of (json_text i) ≡ Some (record_of i) = sym (json_of_text (json_text i) p.0) ∙ p.1 in
    rw value (item_is_read i h)

same_json : (a b : Item) → spelling a ≡ spelling b → json_text a ≡ json_text b
same_json a b e = sym (drop_at (big_bytes 4 (length (json_text a))) (json_text a) 4 refl) ∙ ap (drop 4) e ∙ drop_at (big_bytes 4 (length (json_text b))) (json_text b) 4 refl

pub one_item : (a b : Item) → IsTrue (is_in_range a) → IsTrue (is_in_range b) → spelling a ≡ spelling b → a ≡ b
one_item a b ha hb e =
    let both : Ok a ≡ Ok b = sym (item_reads a ha) ∙ ap item_in (same_json a b e) ∙ item_reads b hb in
    cc
