use Rattle.std.proofs.Common.{◌≡◌, ◌≤◌, ◌+◌, drop, length}
use Rattle.std.specs.Prelude.{if◌then◌else◌}
use Rattle.std.specs.BTreeMap as tree
use Rattle.std.specs.List.{list_any}
use Rattle.std.specs.Option.{option_map}
use Rattle.vpn_tables.specs.Stored.{entry_of, is_row, row_order}
use Rattle.vpn_tables.specs.declared.stored.RowKey.{RowKey}
use Rattle.vpn_tables.proofs.following.refresh_each.Given as goal

abbrev pub invariant-loop-key : goal.invariant-loop-key
invariant-loop-key g l = record {
  entries : (k : RowKey) → (if list_any (is_row k) (drop l.key-index l.keys) then option_map (λ _. entry_of l.held k) (tree.get row_order l.stored k) else tree.get row_order l.stored k)
      ≡ (if list_any (is_row k) l.keys then option_map (λ _. entry_of l.held k) (tree.get row_order l.fn.stored k) else tree.get row_order l.fn.stored k);
  steps : l.steps + length (drop l.key-index l.keys) ≤ l.fn.steps + length l.keys;
}
