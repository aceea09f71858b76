use Rattle.std.proofs.Common.{◌≡◌, drop}
use Rattle.std.specs.Prelude.{true, ◌||◌, is_some}
use Rattle.std.specs.List.{list_any}
use Rattle.std.specs.BTreeMap as tree
use Rattle.vpn_tables.specs.Stored.{is_row, row_order, stored_at}
use Rattle.vpn_tables.specs.declared.stored.RowKey.{RowKey}
use Rattle.vpn_tables.proofs.stored.make_each.Given as goal

abbrev pub invariant-loop-key : goal.invariant-loop-key
invariant-loop-key l = record {
  stays : (k : RowKey) → stored_at l.stored k ≡ stored_at l.fn.stored k;
  places : (k : RowKey) → list_any (is_row k) l.keys ≡ true
      → (list_any (is_row k) (drop l.key-index l.keys) || is_some (tree.get row_order l.stored k)) ≡ true;
}
