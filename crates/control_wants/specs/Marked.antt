-- What is marked of agents, with the rows of marked keys.
use Rattle.std.specs.Prelude.{◌≡◌, List, map}
use Rattle.std.specs.List.{AllByRecursion}
use Rattle.std.specs.List.Sorted.{IsStrictlySortedBy}
use Rattle.std.specs.Option.{option_map}
use Rattle.ov_types.specs.declared.keys.DownKey.{DownKey}
use Rattle.ov_types.specs.declared.keys.DownKey.TheVariants as key
use Rattle.control_wants.specs.Entries.{hop_of}
use Rattle.vpn_tables.specs.NodeModel.Directions.{down_order}
use Rattle.vpn_tables.specs.NodeModel.Paths.{Holdings}
use Rattle.vpn_tables.specs.At.{row_at}
use Rattle.control_wants.specs.Marks.{Marks}
use Rattle.control_wants.specs.declared.whom.Whom.{Whom}
use Rattle.control_wants.specs.declared.marked.ItemKey.{ItemKey}
use Rattle.control_wants.specs.declared.marked.ItemKey.TheVariants.{Row, Slice}
use Rattle.control_wants.specs.declared.marked.MarkedItem.{MarkedItem}

abbrev pub key_in : ItemKey → DownKey
key_in (Slice k) = key.Slice k
key_in (Row i q row) = key.Route i q

-- the row that stands with a key is that of the table
abbrev pub HasItsRow : Holdings → ItemKey → Type 0
HasItsRow h (Slice k) = Unit {0}
HasItsRow h (Row i q row) = row ≡ option_map hop_of (row_at h i q)

-- ---- a marked key, with the agents of which it is marked
abbrev pub marked_entry : MarkedItem → DownKey × Whom
marked_entry m = (key_in m.key, m.whom)

-- each marked key of agents, in order, with its row
pub record AreMarkedItems (d : Marks) (h : Holdings) (ms : List MarkedItem) : Type 0 where
  pub entries : map marked_entry ms ≡ d.items
  pub ascending : IsStrictlySortedBy down_order (map (λ e. e.0) d.items)
  pub rows : AllByRecursion (λ m. HasItsRow h m.key) ms
