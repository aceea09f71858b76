-- How few octets write a value as JSON: of texts with no escape, with no white space, and each member once. The records
-- of items are written so.
use Rattle.std.proofs.Common.{◌≡◌, ℕ, ◌+◌, ◌<◌, ◌≤◌, ◌^◌, ◌/◌, ◌%◌, ◌&&◌, ◌||◌, ◌==◌, Bool, true, false, List, [], ◌∷◌}
use Rattle.std.proofs.Common.{◌++◌, length, map, nat_le, nat_lt, Option, Some, None, decimal, codes, refl, ◌∙◌, arith}
use Rattle.std.proofs.Common.{length-append}
use Rattle.std.specs.Prelude.{⊤}
use Rattle.std.specs.List.{list_all}
use Rattle.std.specs.Str.Parse.{AllDigits}
use Rattle.std.proofs.lemmas.Bool.{and_parts, or_parts, not-true, eqb-false, ltb-false, ltb-true}
use Rattle.std.proofs.lemmas.Bool.Decides.{nat_tests}
use Rattle.std.proofs.lemmas.List.Folds.{list_all-append}
use Rattle.std.proofs.lemmas.Fmt.{decimal_is_IsNumeral}
use Rattle.std.proofs.lemmas.Str.Parse.{digit_from_value}
use Rattle.json.specs.Run.{is_plain}
use Rattle.json.specs.Print.{escape, quoted}
use Rattle.json.proofs.Printed.Strings.{escape_byte_plain}
use Rattle.serde_json.specs.Data.{unsigned, negative, float, Data, null, boolean, number, string, array, object, Items}
use Rattle.serde_json.specs.Data.{no_items, item, Members, no_members, member}
use Rattle.serde_json.specs.View.{items_of}
use Rattle.serde_json.specs.Written.{compact_text, items_text, members_text, comma_if}
use Rattle.ov_types.specs.Name.{is_name_octet_of, is_name}
use Rattle.ov_types.specs.Prefix.{Block, is_prefix, size_of}
use Rattle.ov_types.specs.Texts.{address_text, prefix_text}
use Rattle.ov_types.proofs.Names.{form_of}
use Rattle.ov_types.specs.declared.numbers.InstanceId.{InstanceId}
use Rattle.ov_types.specs.declared.numbers.ServiceNo.{ServiceNo}
use Rattle.ov_types.specs.declared.objects.AclAction.{AclAction}
use Rattle.ov_types.specs.declared.objects.AclAction.TheVariants.{Pass, Deny, Enter}
use Rattle.ov_types.specs.declared.objects.AclRule.{AclRule}
use Rattle.ov_types.specs.declared.prefix.Addr.{Addr}
use Rattle.item_wire.specs.declared.item.Item.{Item}
use Rattle.item_wire.specs.declared.item.Item.TheVariants as I
use Rattle.item_wire.specs.Entries.{is_from_to}
use Rattle.item_wire.specs.Ranges.{is_network, is_instance, is_attached_label, is_address, is_block, is_import, is_hop}
use Rattle.item_wire.specs.Ranges.{is_rule, is_in_range}
use Rattle.item_wire.specs.Records.{prefix_record, import_record, hop_record, protocol_record, action_record}
use Rattle.item_wire.specs.Records.{rule_record, record_of, json_text}

-- a comma, where something stands before
abbrev pub comma_weight : Bool → ℕ
comma_weight true = 1
comma_weight false = 0

-- a member has its colon and a comma: the brace that closes the object stands for one of these
abbrev mutual
  pub weight : Data → ℕ
  weight null = 0
  weight (boolean b) = 0
  weight (number (unsigned n)) = length (decimal n)
  weight (number (negative z)) = 0
  weight (number (float x)) = 0
  weight (string s) = length s + 2
  weight (array ds) = 1 + items_weight false ds
  weight (object ms) = 1 + members_weight ms

  -- with the closing bracket
  pub items_weight : Bool → Items → ℕ
  items_weight later no_items = 1
  items_weight later (item d ds) = comma_weight later + (weight d + items_weight true ds)

  pub members_weight : Members → ℕ
  members_weight no_members = 0
  members_weight (member k d ms) = length k + 4 + (weight d + members_weight ms)

-- a member, with its quotes, colon and comma
abbrev pub member_weight : List ℕ → Data → ℕ
member_weight k d = length k + 4 + weight d

-- ---- texts with no escape

abbrev pub are_plain : List ℕ → Bool
are_plain = list_all is_plain

escape_same : (s : List ℕ) → are_plain s ≡ true → escape s ≡ s
escape_same [] h = refl
escape_same (x ∷ s) h =
    let p = and_parts (is_plain x) (are_plain s) h in
    let none = or_parts ((x == 34) || (x == 92)) (nat_lt x 32) (not-true _ p.0) in
    let tests = or_parts (x == 34) (x == 92) none.0 in
    rw (
      escape_byte_plain x (eqb-false x 34 tests.0) (eqb-false x 92 tests.1) (ltb-false x 32 none.1),
      escape_same s
          p.1,
    ) refl

length_quoted : (s : List ℕ) → are_plain s ≡ true → length (quoted s) ≡ length s + 2
length_quoted s h = rw (escape_same s h) (omega (arith, length-append s (34 ∷ [])))

-- ---- values that are written so

abbrev mutual
  pub IsShort : Data → Type 0
  IsShort null = ⊥
  IsShort (boolean b) = ⊥
  IsShort (number (unsigned n)) = ⊤
  IsShort (number (negative z)) = ⊥
  IsShort (number (float x)) = ⊥
  IsShort (string s) = are_plain s ≡ true
  IsShort (array ds) = AreShort ds
  IsShort (object ms) = ⊥

  pub AreShort : Items → Type 0
  AreShort no_items = ⊤
  AreShort (item d ds) = IsShort d × AreShort ds

abbrev pub ShortMembers : Members → Type 0
ShortMembers no_members = ⊤
ShortMembers (member k d ms) = (are_plain k ≡ true) × IsShort d × ShortMembers ms

length_comma : (later : Bool) → length (comma_if later) ≡ comma_weight later
length_comma true = refl
length_comma false = refl

mutual
  written : (d : Data) → IsShort d → length (compact_text d) ≡ weight d
  written null h = absurd h
  written (boolean b) h = absurd h
  written (number (unsigned n)) h = refl
  written (number (negative z)) h = absurd h
  written (number (float x)) h = absurd h
  written (string s) h = length_quoted s h
  written (array ds) h = omega (arith, are_written false ds h)
  written (object ms) h = absurd h

  are_written : (later : Bool) (ds : Items) → AreShort ds → length (items_text later ds) ≡ items_weight later ds
  are_written later no_items h = refl
  are_written later (item d ds) h =
      omega (
        arith,
        length-append (comma_if later) (compact_text d ++ items_text true ds),
        length_comma later,
        length-append (compact_text d) (items_text true ds),
        written d h.0,
        are_written true ds h.1,
      )

member_written : (k : List ℕ) (d : Data) (rest : List ℕ) → are_plain k ≡ true → IsShort d
    → length (quoted k ++ 58 ∷ (compact_text d ++ rest)) ≡ length k + 3 + (weight d + length rest)
member_written k d rest h plain =
    omega (
      arith,
      length-append (quoted k) (58 ∷ (compact_text d ++ rest)),
      length_quoted k h,
      length-append
          (compact_text d) rest,
      written d plain,
    )

others_written : (ms : Members) → ShortMembers ms → length (members_text true ms) ≡ members_weight ms + 1
others_written no_members h = refl
others_written (member k d ms) h =
    omega (arith, member_written k d (members_text true ms) h.0 h.1, others_written ms h.2)

-- an object that has members
abbrev pub ShortRecord : Data → Type 0
ShortRecord null = ⊥
ShortRecord (boolean b) = ⊥
ShortRecord (number n) = ⊥
ShortRecord (string s) = ⊥
ShortRecord (array ds) = ⊥
ShortRecord (object no_members) = ⊥
ShortRecord (object (member k d ms)) = ShortMembers (member k d ms)

record_written : (d : Data) → ShortRecord d → length (compact_text d) ≡ weight d
record_written null h = absurd h
record_written (boolean b) h = absurd h
record_written (number n) h = absurd h
record_written (string s) h = absurd h
record_written (array ds) h = absurd h
record_written (object no_members) h = absurd h
record_written (object (member k d ms)) h =
    omega (arith, member_written k d (members_text true ms) h.0 h.1, others_written ms h.2)

-- ---- the texts of records

name_octet : (c : ℕ) → is_name_octet_of c ≡ true → is_plain c ≡ true
name_octet c h = grind (arith, nat_tests)

name_octets : (text : List ℕ) → list_all is_name_octet_of text ≡ true → are_plain text ≡ true
name_octets [] h = refl
name_octets (c ∷ text) h =
    let p = and_parts (is_name_octet_of c) (list_all is_name_octet_of text) h in
    rw (name_octet c p.0, name_octets text p.1) refl

name : (text : List ℕ) → is_name text ≡ true → are_plain text ≡ true
name text h = name_octets text (form_of text h).octets

digit : (c : ℕ) → 48 ≤ c → c ≤ 57 → is_plain c ≡ true
digit c low high = grind (arith, nat_tests)

digits : (ds : List ℕ) → AllDigits 10 ds → are_plain ds ≡ true
digits [] h = refl
digits (c ∷ ds) h =
    let k = digit_from_value c h.0 in
    rw (digit c k.0 k.1, digits ds h.1) refl

octet : (n : ℕ) → n < 256 → are_plain (decimal n) ≡ true
octet n small = digits (decimal n) (decimal_is_IsNumeral n (omega arith)).0.1

address : (n : ℕ) → are_plain (address_text n) ≡ true
address n =
    let a : are_plain (decimal (n / 16777216 % 256)) ≡ true = octet (n / 16777216 % 256) (omega arith) in
    let b : are_plain (decimal (n / 65536 % 256)) ≡ true = octet (n / 65536 % 256) (omega arith) in
    let c : are_plain (decimal (n / 256 % 256)) ≡ true = octet (n / 256 % 256) (omega arith) in
    let d : are_plain (decimal (n % 256)) ≡ true = octet (n % 256) (omega arith) in
    simp (list_all-append, a, b, c, d) refl

prefix : (b : Block) → is_block b ≡ true → are_plain (prefix_text b) ≡ true
prefix b h =
    let p = and_parts (is_prefix b.addr b.len) (nat_lt b.addr (2 ^ 32)) h in
    let q = and_parts (nat_lt b.len 33) (b.addr % size_of b.len == 0) p.0 in
    let l : are_plain (decimal b.len) ≡ true = octet b.len (omega (arith, ltb-true b.len 33 q.0)) in
    list_all-append is_plain (address_text b.addr) (codes "/" ++ decimal b.len) ∙ rw (address b.addr, l) refl

lists : {A : Type 0} (is_fit : A → Bool) (value_of : A → Data) → ((x : A) → is_fit x ≡ true → IsShort (value_of x))
    → (xs : List A) → list_all is_fit xs ≡ true → AreShort (items_of (map value_of xs))
lists is_fit value_of each [] h = tt
lists is_fit value_of each (x ∷ xs) h =
    let p = and_parts (is_fit x) (list_all is_fit xs) h in
    (each x p.0, lists is_fit value_of each xs p.1)

import_ : (i : InstanceId) → is_import i ≡ true → IsShort (import_record i)
import_ i h = tt

hop : (h : ServiceNo × Addr) → is_hop h ≡ true → IsShort (hop_record h)
hop h fit = (tt, (address h.1.0, tt))

prefixes : (xs : List Block) → list_all is_block xs ≡ true → AreShort (items_of (map prefix_record xs))
prefixes xs h = lists is_block prefix_record prefix xs h

protocol : (p : Option ℕ) → IsShort (protocol_record p)
protocol None = tt
protocol (Some n) = tt

action : (a : AclAction) → IsShort (action_record a)
action Pass = refl
action Deny = refl
action (Enter i) = tt

rule : (r : AclRule) → is_rule r ≡ true → IsShort (rule_record r)
rule r h = (protocol r.protocol, (tt, (tt, (tt, (tt, (action r.action, (tt, (tt, tt))))))))

record_is_short : (i : Item) → is_in_range i ≡ true → ShortRecord (record_of i)
record_is_short (I.Hello text) h = (refl, name text h, (refl, refl, tt))
record_is_short (I.Instance imports i) h =
    let a = and_parts (list_all is_import imports && nat_le 1 (length imports)) (is_network i.0) h in
    let b = and_parts (list_all is_import imports) (nat_le 1 (length imports)) a.0 in
    (refl, lists is_import import_record import_ imports b.0, (refl, tt, (refl, refl, tt)))
record_is_short (I.Port host i node port) h =
    (refl, address host.0, (refl, tt, (refl, address node.0, (refl, refl, (refl, tt, tt)))))
record_is_short (I.Circuit circuit node service) h = (refl, tt, (refl, address node.0, (refl, refl, (refl, tt, tt))))
record_is_short (I.Acl from rules subnets to) h =
    let a = and_parts (is_network from && list_all is_rule rules && list_all is_block subnets) (is_network to) h in
    let b = and_parts (is_network from && list_all is_rule rules) (list_all is_block subnets) a.0 in
    let c = and_parts (is_network from) (list_all is_rule rules) b.0 in (
      refl,
      tt,
      (
        refl,
        refl,
        (
          refl,
          lists is_rule rule_record rule rules c.1,
          (refl, prefixes subnets b.1, (refl, tt, tt)),
        ),
      ),
    )
record_is_short (I.Use hops left left_prefixes right right_prefixes use_no) h =
    let a = and_parts (list_all is_hop hops && is_from_to 1 15 (length hops) && is_network left.0 && list_all is_block
    left_prefixes && is_network right.0 && list_all is_block right_prefixes) (nat_le use_no 3071) h in
    let b = and_parts (list_all is_hop hops && is_from_to 1 15 (length hops) && is_network left.0 && list_all is_block
    left_prefixes && is_network right.0) (list_all is_block right_prefixes) a.0 in
    let c = and_parts (list_all is_hop hops && is_from_to 1 15 (length hops) && is_network left.0 && list_all is_block
    left_prefixes) (is_network right.0) b.0 in
    let d = and_parts (list_all is_hop hops && is_from_to 1 15 (length hops) && is_network left.0)
    (list_all is_block left_prefixes) c.0 in
    let e = and_parts (list_all is_hop hops && is_from_to 1 15 (length hops)) (is_network left.0) d.0 in
    let f = and_parts (list_all is_hop hops) (is_from_to 1 15 (length hops)) e.0 in (
      refl,
      lists is_hop hop_record hop hops f.0,
      (
        refl,
        tt,
        (
          refl,
          prefixes left_prefixes d.1,
          (refl, refl, (refl, tt, (refl, prefixes right_prefixes b.1, (refl, tt, tt)))),
        ),
      ),
    )
record_is_short (I.NoInstance i) h = (refl, tt, (refl, refl, tt))
record_is_short (I.NoAttach label) h = (refl, tt, (refl, refl, tt))
record_is_short (I.NoAcl from to) h = (refl, tt, (refl, refl, (refl, tt, tt)))
record_is_short (I.NoUse use_no) h = (refl, refl, (refl, tt, tt))
record_is_short (I.Publish i label block) h =
    let a = and_parts (is_instance i.0 && is_attached_label label.0) (is_block block) h in
    (refl, tt, (refl, tt, (refl, refl, (refl, prefix block a.1, tt))))
record_is_short (I.Unpublish i block) h =
    let a = and_parts (is_instance i.0) (is_block block) h in
    (refl, tt, (refl, refl, (refl, prefix block a.1, tt)))
record_is_short (I.Subscribe i) h = (refl, tt, (refl, refl, tt))
record_is_short (I.Unsubscribe i) h = (refl, tt, (refl, refl, tt))
record_is_short (I.Route i label next_hop block) h =
    let a = and_parts (is_instance i.0 && nat_le label.0 1048575 && is_address next_hop) (is_block block) h in
    (refl, tt, (refl, tt, (refl, address next_hop.0, (refl, refl, (refl, prefix block a.1, tt)))))
record_is_short (I.Unroute i block) h =
    let a = and_parts (is_instance i.0) (is_block block) h in
    (refl, tt, (refl, refl, (refl, prefix block a.1, tt)))

-- the JSON of an item has as many octets as its record weighs
pub json_weight : (i : Item) → is_in_range i ≡ true → length (json_text i) ≡ weight (record_of i)
json_weight i h = record_written (record_of i) (record_is_short i h)
