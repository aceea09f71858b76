-- How few octets the entries of records take, and lists of them.
use Rattle.std.proofs.Common.{◌≡◌, ℕ, ◌+◌, ◌*◌, ◌<◌, ◌≤◌, ◌&&◌, Bool, true, List, [], ◌∷◌, length, map, nat_le}
use Rattle.std.proofs.Common.{Option, Some, None, decimal, arith}
use Rattle.std.specs.List.{list_all}
use Rattle.std.proofs.lemmas.Bool.{and_parts, leb-true}
use Rattle.std.proofs.lemmas.Fmt.{length-decimal-le}
use Rattle.serde_json.specs.Data.{Data}
use Rattle.serde_json.specs.View.{items_of}
use Rattle.ov_types.specs.Prefix.{Block}
use Rattle.ov_types.specs.declared.numbers.InstanceId.{InstanceId}
use Rattle.ov_types.specs.declared.numbers.ServiceNo.{ServiceNo}
use Rattle.ov_types.specs.declared.objects.AclAction.{AclAction}
use Rattle.ov_types.specs.declared.objects.AclAction.TheVariants.{Pass, Deny, Enter}
use Rattle.ov_types.specs.declared.objects.AclRule.{AclRule}
use Rattle.ov_types.specs.declared.packet.Range16.{Range16}
use Rattle.ov_types.specs.declared.packet.RuleNo.{RuleNo}
use Rattle.ov_types.specs.declared.prefix.Addr.{Addr}
use Rattle.node_core.specs.ItemWire.Entries.{is_from_to}
use Rattle.node_core.specs.ItemWire.Ranges.{is_node_address, is_block, is_import, is_hop, is_protocol, are_ports, is_action, is_rule_number, is_rule}
use Rattle.node_core.specs.ItemWire.Records.{prefix_record, import_record, hop_record, protocol_record, action_record, rule_record}
use Rattle.node_core.proofs.ItemWire.ShortRecords.{length_address, length_prefix}
use Rattle.node_core.proofs.ItemWire.Weights.{weight, items_weight}
use Rattle.node_core.proofs.ItemWire.ValueWeights.{comma_one}

-- ---- numbers
pub digits : (n : ℕ) → n < 10000000 → length (decimal n) ≤ 7
digits n small = length-decimal-le 7 n (omega arith) (omega arith) (omega arith)

up_to : (n high : ℕ) → nat_le n high ≡ true → high < 10000000 → length (decimal n) ≤ 7
up_to n high h small = let le = leb-true n high h in digits n (omega arith)

pub from_to : (low high n : ℕ) → is_from_to low high n ≡ true → high < 10000000 → length (decimal n) ≤ 7
from_to low high n h small = up_to n high (and_parts (nat_le low n) (nat_le n high) h).1 small

-- ---- entries
abbrev pub IsSmall : Data → Type 0
IsSmall d = weight d ≤ 65

pub import_small : (i : InstanceId) → is_import i ≡ true → IsSmall (import_record i)
import_small i h = let a = from_to 1 16383 i.0 h (omega arith) in omega arith

pub prefix_small : (b : Block) → is_block b ≡ true → IsSmall (prefix_record b)
prefix_small b h = let a = length_prefix b h in omega arith

pub hop_small : (h : ServiceNo × Addr) → is_hop h ≡ true → IsSmall (hop_record h)
hop_small h fit =
    let parts = and_parts (nat_le h.0.0 65535) (is_node_address h.1) fit in
    let a = up_to h.0.0 65535 parts.0 (omega arith) in
    let b = length_address h.1.0 in
    omega arith

protocol_small : (p : Option ℕ) → is_protocol p ≡ true → weight (protocol_record p) ≤ 7
protocol_small None h = digits 256 (omega arith)
protocol_small (Some n) h = up_to n 255 h (omega arith)

action_small : (a : AclAction) → is_action a ≡ true → weight (action_record a) ≤ 7
action_small Pass h = omega arith
action_small Deny h = omega arith
action_small (Enter i) h = from_to 16384 65535 i.0 h (omega arith)

ports_small : (r : Range16) → are_ports r ≡ true → (length (decimal r.lo) ≤ 7) × (length (decimal r.hi) ≤ 7)
ports_small r h =
    let parts = and_parts (nat_le r.lo r.hi) (nat_le r.hi 65535) h in
    let lo = leb-true r.lo r.hi parts.0 in
    let hi = leb-true r.hi 65535 parts.1 in
    (digits r.lo (omega arith), digits r.hi (omega arith))

number_small : (n : RuleNo) → is_rule_number n ≡ true → (length (decimal n.sequence) ≤ 7) × (length (decimal n.position) ≤ 7)
number_small n h =
    let parts = and_parts (nat_le n.sequence 65535) (is_from_to 1 16 n.position) h in
    (up_to n.sequence 65535 parts.0 (omega arith), from_to 1 16 n.position parts.1 (omega arith))

pub rule_small : (r : AclRule) → is_rule r ≡ true → IsSmall (rule_record r)
rule_small r h =
    let a = and_parts (is_protocol r.protocol && are_ports r.sports && are_ports r.dports && is_action r.action) (is_rule_number r.rule) h in
    let b = and_parts (is_protocol r.protocol && are_ports r.sports && are_ports r.dports) (is_action r.action) a.0 in
    let c = and_parts (is_protocol r.protocol && are_ports r.sports) (are_ports r.dports) b.0 in
    let d = and_parts (is_protocol r.protocol) (are_ports r.sports) c.0 in
    let protocol = protocol_small r.protocol d.0 in
    let sports = ports_small r.sports d.1 in
    let dports = ports_small r.dports c.1 in
    let action = action_small r.action b.1 in
    let rule = number_small r.rule a.1 in
    omega (arith, protocol, sports.0, sports.1, dports.0, dports.1, action, rule.0, rule.1)

-- ---- lists
pub list_small : {A : Type 0} (is_fit : A → Bool) (value_of : A → Data) → ((x : A) → is_fit x ≡ true → IsSmall (value_of x))
    → (later : Bool) (xs : List A) → list_all is_fit xs ≡ true → items_weight later (items_of (map value_of xs)) ≤ 1 + 66 * length xs
list_small is_fit value_of each later [] h = omega arith
list_small is_fit value_of each later (x ∷ xs) h =
    let parts = and_parts (is_fit x) (list_all is_fit xs) h in
    let one = each x parts.0 in
    let others = list_small is_fit value_of each true xs parts.1 in
    omega (arith, one, others, comma_one later)
