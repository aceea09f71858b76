use Rattle.std.proofs.Common.{◌≤◌}
use Rattle.inspect_walks.proofs.RowLemmas.{Shorter}
use Rattle.inspect_walks.proofs.rows.row_taken.Given as goal

abbrev pub invariant-loop-left : goal.invariant-loop-left
invariant-loop-left l = record {
  most : l.left ≤ 33;
  shorter : Shorter l.instance l.address.0 l.rows l.left;
}

abbrev pub decreases-loop-left : goal.decreases-loop-left
decreases-loop-left l = l.left
