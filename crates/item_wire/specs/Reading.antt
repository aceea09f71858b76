-- Which item a value is: op first, then its members in order; other members are passed over.
use Rattle.std.specs.Prelude.{ℕ, List, nat_eq, codes, Option, Some, None, Result, Ok, if◌then◌else◌}
use Rattle.std.specs.Cmp.Lexicographic.{pointwise}
use Rattle.serde_json.specs.Data.{Data}
use Rattle.serde_json.specs.Find.{as_str}
use Rattle.ov_io.specs.Json.{json_of}
use Rattle.ov_types.specs.Prefix.{Block}
use Rattle.ov_types.specs.declared.prefix.Addr.{Addr}
use Rattle.item_wire.specs.declared.fault.Field.{Field}
use Rattle.item_wire.specs.declared.fault.Field.TheVariants as F
use Rattle.item_wire.specs.declared.fault.ItemFault.{ItemFault}
use Rattle.item_wire.specs.declared.fault.ItemFault.TheVariants.{NotJson}
use Rattle.item_wire.specs.declared.item.Item.{Item}
use Rattle.item_wire.specs.declared.item.Item.TheVariants as I
use Rattle.item_wire.specs.declared.member.MemberKind.TheVariants.{Whole, Text, Listed}
use Rattle.item_wire.specs.declared.list.Count.{Count}
use Rattle.item_wire.specs.declared.list.Count.TheVariants.{AnyNumber, AtLeastOne, OneToFifteen}
use Rattle.item_wire.specs.declared.op.Op.{Op}
use Rattle.item_wire.specs.declared.op.Op.TheVariants as O
use Rattle.item_wire.specs.Entries.{number_from, name_from, any_address_from, node_address_from, prefix_from}
use Rattle.item_wire.specs.Entries.{network_from, hop_from, rule_from, list_from}
use Rattle.item_wire.specs.Faults.{◌>>=◌, wanted}
use Rattle.item_wire.specs.Members.{in_member}

-- a number from low to high
abbrev pub number_in : ℕ → ℕ → Field → Data → Result ℕ ItemFault
number_in low high = in_member Whole (number_from low high)

-- the number of a network
abbrev pub network_in : Field → Data → Result ℕ ItemFault
network_in = number_in 1 16383

-- the number of an instance, of a network or of a hop
abbrev pub instance_in : Field → Data → Result ℕ ItemFault
instance_in = number_in 1 65535

abbrev pub any_address_in : Field → Data → Result Addr ItemFault
any_address_in = in_member Text any_address_from

abbrev pub node_address_in : Field → Data → Result Addr ItemFault
node_address_in = in_member Text node_address_from

abbrev pub prefix_in : Field → Data → Result Block ItemFault
prefix_in = in_member Text prefix_from

-- a list of a number of items that is allowed
abbrev pub list_in : {A : Type 0} → Count → (Data → Option A) → Field → Data → Result (List A) ItemFault
list_in count reads = in_member Listed (list_from count reads)

abbrev pub prefixes_in : Field → Data → Result (List Block) ItemFault
prefixes_in = list_in AnyNumber prefix_from

unfoldable pub hello_of : Data → Result Item ItemFault
hello_of d = do
  name ← in_member Text name_from F.Name d
  Ok (I.Hello name)

unfoldable pub instance_of : Data → Result Item ItemFault
instance_of d = do
  imports ← list_in AtLeastOne network_from F.Imports d
  instance ← network_in F.Instance d
  Ok (I.Instance imports (record { 0 = instance }))

unfoldable pub port_of : Data → Result Item ItemFault
port_of d = do
  address ← any_address_in F.Address d
  instance ← network_in F.Instance d
  node ← node_address_in F.Node d
  port ← number_in 0 524271 F.Port d
  Ok (I.Port address (record { 0 = instance }) node (record { 0 = port }))

unfoldable pub circuit_of : Data → Result Item ItemFault
circuit_of d = do
  circuit ← number_in 32769 131070 F.Circuit d
  node ← node_address_in F.Node d
  service ← number_in 0 65535 F.Service d
  Ok (I.Circuit circuit node (record { 0 = service }))

unfoldable pub acl_of : Data → Result Item ItemFault
acl_of d = do
  from ← network_in F.From d
  rules ← list_in AnyNumber rule_from F.Rules d
  subnets ← prefixes_in F.Subnets d
  to ← network_in F.To d
  Ok (I.Acl from rules subnets to)

unfoldable pub use_of : Data → Result Item ItemFault
use_of d = do
  hops ← list_in OneToFifteen hop_from F.Hops d
  left ← network_in F.Left d
  left_prefixes ← prefixes_in F.LeftPrefixes d
  right ← network_in F.Right d
  right_prefixes ← prefixes_in F.RightPrefixes d
  use_no ← number_in 0 3071 F.Use d
  Ok (I.Use hops (record { 0 = left }) left_prefixes (record { 0 = right }) right_prefixes use_no)

unfoldable pub no_instance_of : Data → Result Item ItemFault
no_instance_of d = do
  instance ← network_in F.Instance d
  Ok (I.NoInstance (record { 0 = instance }))

unfoldable pub no_attach_of : Data → Result Item ItemFault
no_attach_of d = do
  label ← number_in 16 655358 F.Label d
  Ok (I.NoAttach (record { 0 = label }))

unfoldable pub no_acl_of : Data → Result Item ItemFault
no_acl_of d = do
  from ← network_in F.From d
  to ← network_in F.To d
  Ok (I.NoAcl from to)

unfoldable pub no_use_of : Data → Result Item ItemFault
no_use_of d = do
  use_no ← number_in 0 3071 F.Use d
  Ok (I.NoUse use_no)

unfoldable pub publish_of : Data → Result Item ItemFault
publish_of d = do
  instance ← instance_in F.Instance d
  label ← number_in 16 655358 F.Label d
  prefix ← prefix_in F.Prefix d
  Ok (I.Publish (record { 0 = instance }) (record { 0 = label }) prefix)

unfoldable pub unpublish_of : Data → Result Item ItemFault
unpublish_of d = do
  instance ← instance_in F.Instance d
  prefix ← prefix_in F.Prefix d
  Ok (I.Unpublish (record { 0 = instance }) prefix)

unfoldable pub subscribe_of : Data → Result Item ItemFault
subscribe_of d = do
  instance ← instance_in F.Instance d
  Ok (I.Subscribe (record { 0 = instance }))

unfoldable pub unsubscribe_of : Data → Result Item ItemFault
unsubscribe_of d = do
  instance ← instance_in F.Instance d
  Ok (I.Unsubscribe (record { 0 = instance }))

unfoldable pub route_of : Data → Result Item ItemFault
route_of d = do
  instance ← instance_in F.Instance d
  label ← number_in 0 1048575 F.Label d
  next_hop ← any_address_in F.NextHop d
  prefix ← prefix_in F.Prefix d
  Ok (I.Route (record { 0 = instance }) (record { 0 = label }) next_hop prefix)

unfoldable pub unroute_of : Data → Result Item ItemFault
unroute_of d = do
  instance ← instance_in F.Instance d
  prefix ← prefix_in F.Prefix d
  Ok (I.Unroute (record { 0 = instance }) prefix)

-- the op of this name
abbrev pub op_of : List ℕ → Option Op
op_of text =
    if pointwise nat_eq text (codes "hello") then Some O.Hello
    else (if pointwise nat_eq text (codes "instance") then Some O.Instance
    else (if pointwise nat_eq text (codes "port") then Some O.Port
    else (if pointwise nat_eq text (codes "circuit") then Some O.Circuit
    else (if pointwise nat_eq text (codes "acl") then Some O.Acl
    else (if pointwise nat_eq text (codes "use") then Some O.Use
    else (if pointwise nat_eq text (codes "no-instance") then Some O.NoInstance
    else (if pointwise nat_eq text (codes "no-attach") then Some O.NoAttach
    else (if pointwise nat_eq text (codes "no-acl") then Some O.NoAcl
    else (if pointwise nat_eq text (codes "no-use") then Some O.NoUse
    else (if pointwise nat_eq text (codes "publish") then Some O.Publish
    else (if pointwise nat_eq text (codes "unpublish") then Some O.Unpublish
    else (if pointwise nat_eq text (codes "subscribe") then Some O.Subscribe
    else (if pointwise nat_eq text (codes "unsubscribe") then Some O.Unsubscribe
    else (if pointwise nat_eq text (codes "route") then Some O.Route
    else (if pointwise nat_eq text (codes "unroute") then Some O.Unroute
    else None)))))))))))))))

abbrev pub op_if : Option (List ℕ) → Option Op
op_if None = None
op_if (Some text) = op_of text

unfoldable pub op_from : Data → Option Op
op_from d = op_if (as_str d)

-- the record with this op
abbrev pub by_op : Op → Data → Result Item ItemFault
by_op O.Hello d = hello_of d
by_op O.Instance d = instance_of d
by_op O.Port d = port_of d
by_op O.Circuit d = circuit_of d
by_op O.Acl d = acl_of d
by_op O.Use d = use_of d
by_op O.NoInstance d = no_instance_of d
by_op O.NoAttach d = no_attach_of d
by_op O.NoAcl d = no_acl_of d
by_op O.NoUse d = no_use_of d
by_op O.Publish d = publish_of d
by_op O.Unpublish d = unpublish_of d
by_op O.Subscribe d = subscribe_of d
by_op O.Unsubscribe d = unsubscribe_of d
by_op O.Route d = route_of d
by_op O.Unroute d = unroute_of d

-- the item that a value is; what is no object has no op
unfoldable pub item_of : Data → Result Item ItemFault
item_of d = do
  op ← in_member Text op_from F.Op d
  by_op op d

-- the item that octets of JSON are
unfoldable pub item_in : List ℕ → Result Item ItemFault
item_in octets = do
  d ← wanted NotJson (json_of octets)
  item_of d
