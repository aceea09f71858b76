-- The records of instances, access lists and uses are short, where their lists are.
use Rattle.std.proofs.Common.{◌≡◌, ℕ, ◌≤◌, ◌&&◌, true, false, List, length, nat_le, arith}
use Rattle.std.specs.List.{list_all}
use Rattle.std.proofs.lemmas.Bool.{and_parts}
use Rattle.ov_types.specs.Prefix.{Block}
use Rattle.ov_types.specs.declared.numbers.InstanceId.{InstanceId}
use Rattle.ov_types.specs.declared.numbers.ServiceNo.{ServiceNo}
use Rattle.ov_types.specs.declared.objects.AclRule.{AclRule}
use Rattle.ov_types.specs.declared.prefix.Addr.{Addr}
use Rattle.node_core.specs.ItemWire.Item.TheVariants as I
use Rattle.node_core.specs.ItemWire.Entries.{is_from_to}
use Rattle.node_core.specs.ItemWire.Ranges.{is_network, is_block, is_import, is_hop, is_rule, is_in_range}
use Rattle.node_core.specs.ItemWire.Records.{json_text, prefix_record, import_record, hop_record, rule_record}
use Rattle.node_core.proofs.ItemWire.Weights.{json_weight}
use Rattle.config_node.proofs.Sizes.{digits, from_to, import_small, prefix_small, hop_small, rule_small, list_small}

pub instance_short : (imports : List InstanceId) (i : InstanceId) → is_in_range (I.Instance imports i) ≡ true → length imports ≤ 128
    → length (json_text (I.Instance imports i)) ≤ 65536
instance_short imports i range few =
    let a = and_parts (list_all is_import imports && nat_le 1 (length imports)) (is_network i.0) range in
    let b = and_parts (list_all is_import imports) (nat_le 1 (length imports)) a.0 in
    let list = list_small is_import import_record import_small false imports b.0 in
    let number = from_to 1 16383 i.0 a.1 (omega arith) in
    omega (arith, json_weight (I.Instance imports i) range, list, number, few)

pub list_short : (from : ℕ) (rules : List AclRule) (subnets : List Block) (to : ℕ) → is_in_range (I.Acl from rules subnets to) ≡ true
    → length rules ≤ 128 → length subnets ≤ 4 → length (json_text (I.Acl from rules subnets to)) ≤ 65536
list_short from rules subnets to range few_rules few_subnets =
    let a = and_parts (is_network from && list_all is_rule rules && list_all is_block subnets) (is_network to) range in
    let b = and_parts (is_network from && list_all is_rule rules) (list_all is_block subnets) a.0 in
    let c = and_parts (is_network from) (list_all is_rule rules) b.0 in
    let entries = list_small is_rule rule_record rule_small false rules c.1 in
    let prefixes = list_small is_block prefix_record prefix_small false subnets b.1 in
    let first = from_to 1 16383 from c.0 (omega arith) in
    let second = from_to 1 16383 to a.1 (omega arith) in
    omega (arith, json_weight (I.Acl from rules subnets to) range, entries, prefixes, first, second, few_rules, few_subnets)

module _ (hops : List (ServiceNo × Addr)) (left : InstanceId) (lefts : List Block) (right : InstanceId) (rights : List Block) (use_no : ℕ) where
  pub use_short : is_in_range (I.Use hops left lefts right rights use_no) ≡ true → length hops ≤ 15 → length lefts ≤ 4 → length rights ≤ 4
      → use_no ≤ 3071 → length (json_text (I.Use hops left lefts right rights use_no)) ≤ 65536
  use_short range few_hops few_lefts few_rights few_uses =
      let a = and_parts (list_all is_hop hops && is_from_to 1 15 (length hops) && is_network left.0 && list_all is_block lefts && is_network right.0
      && list_all is_block rights) (nat_le use_no 3071) range in
      let b = and_parts (list_all is_hop hops && is_from_to 1 15 (length hops) && is_network left.0 && list_all is_block lefts && is_network right.0)
      (list_all is_block rights) a.0 in
      let c = and_parts (list_all is_hop hops && is_from_to 1 15 (length hops) && is_network left.0 && list_all is_block lefts) (is_network right.0) b.0 in
      let d = and_parts (list_all is_hop hops && is_from_to 1 15 (length hops) && is_network left.0) (list_all is_block lefts) c.0 in
      let e = and_parts (list_all is_hop hops && is_from_to 1 15 (length hops)) (is_network left.0) d.0 in
      let f = and_parts (list_all is_hop hops) (is_from_to 1 15 (length hops)) e.0 in
      let services = list_small is_hop hop_record hop_small false hops f.0 in
      let on_left = list_small is_block prefix_record prefix_small false lefts d.1 in
      let on_right = list_small is_block prefix_record prefix_small false rights b.1 in
      let first = from_to 1 16383 left.0 e.1 (omega arith) in
      let second = from_to 1 16383 right.0 c.1 (omega arith) in
      let number = digits use_no (omega (arith, few_uses)) in
      omega (
        arith,
        json_weight (I.Use hops left lefts right rights use_no) range,
        services,
        on_left,
        on_right,
        first,
        second,
        number,
        few_hops,
        few_lefts,
        few_rights,
      )
