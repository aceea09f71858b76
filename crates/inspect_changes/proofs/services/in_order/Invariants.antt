use Rattle.std.proofs.Common.{◌≡◌, ◌++◌, drop, length}
use Rattle.inspect_changes.proofs.services.in_order.Given as goal

abbrev pub invariant-loop-number : goal.invariant-loop-number
invariant-loop-number l = record {
  so_far : l.services ++ drop l.number-index l.numbers ≡ l.numbers;
  count : length l.services ≡ l.number-index;
}
