-- Entries that are added one by one.
use Rattle.std.specs.Prelude.{List, [], ◌∷◌, ◌++◌}
use Rattle.std.specs.declared.cmp.Ordering.{Ordering}
use Rattle.std.specs.declared.option.Option.{Option}
use Rattle.std.specs.declared.option.Option.TheVariants.{Some, None}
use Rattle.std.specs.BTreeMap.{insert_entry}
use Rattle.std.specs.Ordering.{nat_cmp}
use Rattle.std.specs.FinMap.{entries, from_entries}
use Rattle.ov_types.specs.declared.keys.UpKey.{UpKey}
use Rattle.ov_types.specs.declared.numbers.Label.{Label as LabelNo}
use Rattle.node_core.specs.NodeModel.Keys.{Key, of_up}
use Rattle.node_core.specs.NodeModel.Values.{Value, Label}
use Rattle.node_core.specs.NodeModel.Maps.{Map}

-- a map with further entries: at a key that it has they do not count, and of two of them with one key the first does
abbrev pub added : Map → List (Key × Value) → Map
added m es = from_entries (entries m ++ es)

-- what an agent tells of a key and its label, where there is one
abbrev pub entries_of : Option (UpKey × LabelNo) → List (Key × Value)
entries_of None = []
entries_of (Some e) = (of_up e.0, Label e.1) ∷ []

-- a list with an entry in its place, where there is one
abbrev pub with_entry : {K V : Type 0} → (K → K → Ordering) → List (K × V) → Option (K × V) → List (K × V)
with_entry R es None = es
with_entry R es (Some e) = insert_entry R es e.0 e.1

-- labels go by number
abbrev pub label_order : LabelNo → LabelNo → Ordering
label_order a b = nat_cmp a.0 b.0
