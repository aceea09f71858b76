use Rattle.std.proofs.Common.{◌≡◌, ◌++◌, map, drop}
use Rattle.control_wants.specs.Entries.{told_row}
use Rattle.control_wants.proofs.entries.push_told.Given as goal

abbrev pub invariant-loop-prefix : goal.invariant-loop-prefix
invariant-loop-prefix l =
    l.told.items ++ map (told_row l.instance) (drop l.prefix-index l.table) ≡ l.fn.told.items ++ map (told_row l.instance) l.table
