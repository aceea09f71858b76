-- What is read from a value: numbers, names, addresses, prefixes, and lists of them.
use Rattle.std.specs.Prelude.{ℕ, ◌+◌, ◌∷◌, [], List, Bool, true, false}
use Rattle.std.specs.Prelude.{◌==◌, nat_le, nat_eq, codes, Option, Some, None}
use Rattle.std.specs.Prelude.{if◌then◌else◌}
use Rattle.std.specs.Cmp.Lexicographic.{pointwise}
use Rattle.serde_json.specs.Data.{Num, unsigned, Data, Items, no_items, item}
use Rattle.serde_json.specs.Events.{items_len}
use Rattle.serde_json.specs.Find.{at, as_number, as_str, as_array}
pub use Rattle.ov_types.specs.Bounds.{is_from_to}
use Rattle.ov_types.specs.Name.{name_of as name_spelled}
use Rattle.ov_types.specs.Prefix.{Block}
use Rattle.ov_types.specs.declared.numbers.InstanceId.{InstanceId}
use Rattle.ov_types.specs.declared.numbers.ServiceNo.{ServiceNo}
use Rattle.ov_types.specs.declared.objects.AclAction.{AclAction}
use Rattle.ov_types.specs.declared.objects.AclAction.TheVariants.{Pass, Deny, Enter}
use Rattle.ov_types.specs.declared.objects.AclRule.{AclRule}
use Rattle.ov_types.specs.declared.packet.Range16.{Range16}
use Rattle.ov_types.specs.declared.packet.RuleNo.{RuleNo}
use Rattle.ov_types.specs.declared.prefix.Addr.{Addr}
use Rattle.item_wire.specs.declared.list.Count.{Count}
use Rattle.item_wire.specs.declared.list.Count.TheVariants.{AnyNumber, AtLeastOne, OneToFifteen}
use Rattle.ov_types.specs.Written.{address_of, block_of}

-- one value goes into the reading of the next, where there is one
infixl 10 ◌>>=◌
abbrev pub ◌>>=◌ : {A B : Type 0} → Option A → (A → Option B) → Option B
(Some x) >>= f = f x
None >>= f = None

abbrev pub kept : {A : Type 0} → Bool → A → Option A
kept passes x = if passes then Some x else None

abbrev pub number_if : ℕ → ℕ → Option Num → Option ℕ
number_if low high (Some (unsigned n)) = kept (is_from_to low high n) n
number_if low high _ = None

-- a whole number from low to high
unfoldable pub number_from : ℕ → ℕ → Data → Option ℕ
number_from low high d = number_if low high (as_number d)

unfoldable pub name_from : Data → Option (List ℕ)
name_from d = do
  text ← as_str d
  name_spelled text

-- an address from low to high
unfoldable pub address_from : ℕ → ℕ → Data → Option Addr
address_from low high d = do
  text ← as_str d
  n ← address_of text
  kept (is_from_to low high n) (record { 0 = n })

-- the address of a node: 1.0.0.0 to 223.255.255.255
abbrev pub node_address_from : Data → Option Addr
node_address_from = address_from 0x0100_0000 0xdfff_ffff

abbrev pub any_address_from : Data → Option Addr
any_address_from = address_from 0 0xffff_ffff

unfoldable pub prefix_from : Data → Option Block
prefix_from d = do
  text ← as_str d
  block_of text

-- each item of a list, where each is read
unfoldable pub all_from : {A : Type 0} → (Data → Option A) → Items → Option (List A)
all_from reads no_items = Some []
all_from reads (item d ds) = do
  first ← reads d
  others ← all_from reads ds
  Some (first ∷ others)

-- whether a list may have this number of items
abbrev pub allows : Count → ℕ → Bool
allows AnyNumber n = true
allows AtLeastOne n = nat_le 1 n
allows OneToFifteen n = is_from_to 1 15 n

-- the items of a list, where it may have this number of them
abbrev pub counted : Count → Option Items → Option Items
counted count None = None
counted count (Some items) = kept (allows count (items_len items)) items

-- a list of a number of items that is allowed
unfoldable pub list_from : {A : Type 0} → Count → (Data → Option A) → Data → Option (List A)
list_from count reads d = do
  items ← counted count (as_array d)
  all_from reads items

-- the number of a network
unfoldable pub network_from : Data → Option InstanceId
network_from d = do
  n ← number_from 1 16383 d
  Some (record { 0 = n })

abbrev pub counts : ℕ → Option Items → Bool
counts n None = false
counts n (Some items) = items_len items == n

-- a list of so many items
abbrev pub has_items : ℕ → Data → Bool
has_items n d = counts n (as_array d)

-- what is read from the item at a place, counted from 0
unfoldable pub in_place : {A : Type 0} → ℕ → (Data → Option A) → Data → Option A
in_place i reads d = do
  found ← at i d
  reads found

-- the number of a service and the address of its node
unfoldable pub hop_from : Data → Option (ServiceNo × Addr)
hop_from d = do
  pair ← kept (has_items 2 d) d
  service ← in_place 0 (number_from 0 65535) pair
  node ← in_place 1 node_address_from pair
  Some (record { 0 = service }, node)

-- a protocol, or 256 for any
unfoldable pub protocol_from : Data → Option (Option ℕ)
protocol_from d = do
  n ← number_from 0 256 d
  Some (if n == 256 then None else Some n)

-- the least and the greatest port number, from two places
unfoldable pub ports_from : ℕ → Data → Option Range16
ports_from i d = do
  lo ← in_place i (number_from 0 65535) d
  hi ← in_place (i + 1) (number_from 0 65535) d
  kept (nat_le lo hi) (record { lo = lo; hi = hi })

abbrev pub action_named : List ℕ → Option AclAction
action_named text = if pointwise nat_eq text (codes "pass") then Some Pass
    else (if pointwise nat_eq text (codes "deny") then Some Deny else None)

abbrev pub action_of : Data → Option (List ℕ) → Option AclAction
action_of d (Some text) = action_named text
action_of d None = number_from 16384 65535 d >>= λ n. Some (Enter (record { 0 = n }))

-- `pass`, `deny`, or the instance that is entered
unfoldable pub action_from : Data → Option AclAction
action_from d = action_of d (as_str d)

-- the sequence of a policy and the position in it
unfoldable pub rule_number_from : Data → Option RuleNo
rule_number_from d = do
  sequence ← in_place 6 (number_from 0 65535) d
  position ← in_place 7 (number_from 1 16) d
  Some (record { sequence = sequence; position = position })

-- a list of eight: protocol, least and greatest source port, least and greatest destination port, action, sequence,
-- position
unfoldable pub rule_from : Data → Option AclRule
rule_from d = do
  eight ← kept (has_items 8 d) d
  protocol ← in_place 0 protocol_from eight
  sports ← ports_from 1 eight
  dports ← ports_from 3 eight
  action ← in_place 5 action_from eight
  number ← rule_number_from eight
  Some (record { protocol = protocol; sports = sports; dports = dports; action = action; rule = number })
