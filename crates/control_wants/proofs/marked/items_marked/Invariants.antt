use Rattle.std.proofs.Common.{◌≡◌, ◌++◌, map}
use Rattle.std.specs.List.{AllByRecursion}
use Rattle.control_wants.specs.Marked.{HasItsRow, marked_entry}
use Rattle.control_wants.proofs.marked.items_marked.Given as goal

abbrev pub invariant-loop-key : goal.invariant-loop-key
invariant-loop-key l = record {
  entries : map marked_entry l.marked.items ++ l.key-iterator ≡ l.dirty.items;
  rows : AllByRecursion (λ m. HasItsRow l.tables m.key) l.marked.items;
}
