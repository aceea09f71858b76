-- Records that have no list are short.
use Rattle.std.proofs.Common.{◌≡◌, ℕ, ◌<◌, ◌≤◌, ◌^◌, ◌/◌, ◌%◌, ◌&&◌, ◌==◌, true, false, IsTrue, ◌++◌, length, nat_le}
use Rattle.std.proofs.Common.{nat_lt, decimal, codes, arith, length-append}
use Rattle.std.proofs.lemmas.Bool.{and_parts, leb-true, ltb-true}
use Rattle.std.proofs.lemmas.Fmt.{length-decimal-le}
use Rattle.ov_types.specs.Prefix.{Block, is_prefix, size_of}
use Rattle.ov_types.specs.Texts.{address_text, prefix_text}
use Rattle.ov_types.proofs.Names.{form_of}
use Rattle.item_wire.specs.declared.item.Item.{Item}
use Rattle.item_wire.specs.declared.item.Item.TheVariants as I
use Rattle.item_wire.specs.Entries.{is_from_to}
use Rattle.item_wire.specs.Ranges.{is_network, is_instance, is_attached_label, is_address, is_node_address, is_block}
use Rattle.item_wire.specs.Ranges.{is_in_range}
use Rattle.item_wire.specs.Records.{json_text, has_lists}
use Rattle.item_wire.proofs.Weights.{json_weight}

-- numbers of at most seven digits
number : (n high : ℕ) → nat_le n high ≡ true → high < 10 ^ 7 → length (decimal n) ≤ 7
number n high h small =
    length-decimal-le 7 n (omega arith) (omega (arith, leb-true n high h)) (omega (arith, leb-true n high h))

within : (low high n : ℕ) → is_from_to low high n ≡ true → high < 10 ^ 7 → length (decimal n) ≤ 7
within low high n h small = number n high (and_parts (nat_le low n) (nat_le n high) h).1 small

network : (n : ℕ) → is_network n ≡ true → length (decimal n) ≤ 7
network n h = within 1 16383 n h (omega arith)

instance : (n : ℕ) → is_instance n ≡ true → length (decimal n) ≤ 7
instance n h = within 1 65535 n h (omega arith)

label : (n : ℕ) → is_attached_label n ≡ true → length (decimal n) ≤ 7
label n h = within 16 655358 n h (omega arith)

-- one of the four numbers of an address
octet : (n : ℕ) → n < 256 → length (decimal n) ≤ 3
octet n small = length-decimal-le 3 n (omega arith) (omega arith) (omega arith)

pub length_address : (n : ℕ) → length (address_text n) ≤ 15
length_address n =
    let a : length (decimal (n / 16777216 % 256)) ≤ 3 = octet (n / 16777216 % 256) (omega arith) in
    let b : length (decimal (n / 65536 % 256)) ≤ 3 = octet (n / 65536 % 256) (omega arith) in
    let c : length (decimal (n / 256 % 256)) ≤ 3 = octet (n / 256 % 256) (omega arith) in
    let d : length (decimal (n % 256)) ≤ 3 = octet (n % 256) (omega arith) in
    simp length-append (omega arith)

pub length_prefix : (b : Block) → is_block b ≡ true → length (prefix_text b) ≤ 18
length_prefix b h =
    let p = and_parts (is_prefix b.addr b.len) (nat_lt b.addr (2 ^ 32)) h in
    let q = and_parts (nat_lt b.len 33) (b.addr % size_of b.len == 0) p.0 in
    let k = ltb-true b.len 33 q.0 in
    let l : length (decimal b.len) ≤ 2 = length-decimal-le 2 b.len (omega arith) (omega arith) (omega arith) in
    omega (arith, length-append (address_text b.addr) (codes "/" ++ decimal b.len), length_address b.addr, l)

pub most_are_short : (i : Item) → IsTrue (is_in_range i) → has_lists i ≡ false → length (json_text i) ≤ 128
most_are_short (I.Hello text) h none =
    let f = form_of text h in
    omega (arith, json_weight (I.Hello text) h, f.short)
most_are_short (I.Instance imports i) h none = absurd (cc)
most_are_short (I.Port host i node port) h none =
    let a = and_parts (is_address host && is_network i.0 && is_node_address node) (nat_le port.0 524271) h in
    let b = and_parts (is_address host && is_network i.0) (is_node_address node) a.0 in
    let c = and_parts (is_address host) (is_network i.0) b.0 in
    omega (
      arith,
      json_weight (I.Port host i node port) h,
      length_address host.0,
      network i.0 c.1,
      length_address node.0,
      number port.0 524271 a.1 (omega arith),
    )
most_are_short (I.Circuit circuit node service) h none =
    let a = and_parts (is_from_to 32769 131070 circuit && is_node_address node) (nat_le service.0 65535) h in
    let b = and_parts (is_from_to 32769 131070 circuit) (is_node_address node) a.0 in
    omega (
      arith,
      json_weight (I.Circuit circuit node service) h,
      within 32769 131070 circuit b.0 (omega arith),
      length_address node.0,
      number service.0 65535 a.1 (omega arith),
    )
most_are_short (I.Acl from rules subnets to) h none = absurd (cc)
most_are_short (I.Use hops left left_prefixes right right_prefixes use_no) h none = absurd (cc)
most_are_short (I.NoInstance i) h none = omega (arith, json_weight (I.NoInstance i) h, network i.0 h)
most_are_short (I.NoAttach l) h none = omega (arith, json_weight (I.NoAttach l) h, label l.0 h)
most_are_short (I.NoAcl from to) h none =
    let a = and_parts (is_network from) (is_network to) h in
    omega (arith, json_weight (I.NoAcl from to) h, network from a.0, network to a.1)
most_are_short (I.NoUse use_no) h none =
    omega (arith, json_weight (I.NoUse use_no) h, number use_no 3071 h (omega arith))
most_are_short (I.Publish i l block) h none =
    let a = and_parts (is_instance i.0 && is_attached_label l.0) (is_block block) h in
    let b = and_parts (is_instance i.0) (is_attached_label l.0) a.0 in
    omega (arith, json_weight (I.Publish i l block) h, instance i.0 b.0, label l.0 b.1, length_prefix block a.1)
most_are_short (I.Unpublish i block) h none =
    let a = and_parts (is_instance i.0) (is_block block) h in
    omega (arith, json_weight (I.Unpublish i block) h, instance i.0 a.0, length_prefix block a.1)
most_are_short (I.Subscribe i) h none = omega (arith, json_weight (I.Subscribe i) h, instance i.0 h)
most_are_short (I.Unsubscribe i) h none = omega (arith, json_weight (I.Unsubscribe i) h, instance i.0 h)
most_are_short (I.Route i l next_hop block) h none =
    let a = and_parts (is_instance i.0 && nat_le l.0 1048575 && is_address next_hop) (is_block block) h in
    let b = and_parts (is_instance i.0 && nat_le l.0 1048575) (is_address next_hop) a.0 in
    let c = and_parts (is_instance i.0) (nat_le l.0 1048575) b.0 in
    omega (
      arith,
      json_weight (I.Route i l next_hop block) h,
      instance i.0 c.0,
      number l.0 1048575 c.1 (omega arith),
      length_address next_hop.0,
      length_prefix block a.1,
    )
most_are_short (I.Unroute i block) h none =
    let a = and_parts (is_instance i.0) (is_block block) h in
    omega (arith, json_weight (I.Unroute i block) h, instance i.0 a.0, length_prefix block a.1)
