-- Members of records: their names and kinds, and what is read from them.
use Rattle.std.specs.Prelude.{ℕ, List, Bool, true, false, Option, Some, None, Result, is_some, codes, if◌then◌else◌}
use Rattle.serde_json.specs.Data.{Num, unsigned, negative, float, Data}
use Rattle.serde_json.specs.Find.{get, as_number, as_str, as_array}
use Rattle.item_wire.specs.declared.fault.Field.{Field}
use Rattle.item_wire.specs.declared.fault.Field.TheVariants as F
use Rattle.item_wire.specs.declared.fault.ItemFault.{ItemFault}
use Rattle.item_wire.specs.declared.fault.ItemFault.TheVariants.{Member, Range}
use Rattle.item_wire.specs.declared.member.MemberKind.{MemberKind}
use Rattle.item_wire.specs.declared.member.MemberKind.TheVariants.{Whole, Text, Listed}
use Rattle.item_wire.specs.Faults.{◌>>=◌, wanted}

-- the name of a member in JSON
abbrev pub name_of : Field → List ℕ
name_of F.Op = codes "op"
name_of F.Name = codes "name"
name_of F.Imports = codes "imports"
name_of F.Instance = codes "instance"
name_of F.Address = codes "address"
name_of F.Node = codes "node"
name_of F.Port = codes "port"
name_of F.Circuit = codes "circuit"
name_of F.Service = codes "service"
name_of F.From = codes "from"
name_of F.Rules = codes "rules"
name_of F.Subnets = codes "subnets"
name_of F.To = codes "to"
name_of F.Hops = codes "hops"
name_of F.Left = codes "left"
name_of F.LeftPrefixes = codes "left_prefixes"
name_of F.Right = codes "right"
name_of F.RightPrefixes = codes "right_prefixes"
name_of F.Use = codes "use"
name_of F.Label = codes "label"
name_of F.Prefix = codes "prefix"
name_of F.NextHop = codes "next_hop"

-- a whole number of 64 bits, also one below zero; one with a fraction or an exponent is none
abbrev pub is_whole_number : Option Num → Bool
is_whole_number None = false
is_whole_number (Some (unsigned n)) = true
is_whole_number (Some (negative z)) = true
is_whole_number (Some (float x)) = false

-- whether a value is of a kind
abbrev pub is_of_kind : MemberKind → Data → Bool
is_of_kind Whole d = is_whole_number (as_number d)
is_of_kind Text d = is_some (as_str d)
is_of_kind Listed d = is_some (as_array d)

-- a value of a kind, where it is there
abbrev pub of_kind : MemberKind → Option Data → Option Data
of_kind kind None = None
of_kind kind (Some d) = if is_of_kind kind d then Some d else None

-- a member that is missing or of another kind is Member; one of its kind from which nothing is read is Range
unfoldable pub in_member : {A : Type 0} → MemberKind → (Data → Option A) → Field → Data → Result A ItemFault
in_member kind reads field d = do
  found ← wanted (Member field) (of_kind kind (get (name_of field) d))
  wanted (Range field) (reads found)
