use Rattle.std.proofs.Common.{◌≡◌, ◌++◌, map, drop}
use Rattle.control_wants.specs.Entries.{shown_row}
use Rattle.control_wants.proofs.entries.push_shown.Given as goal

abbrev pub invariant-loop-prefix : goal.invariant-loop-prefix
invariant-loop-prefix l =
    l.rows.items ++ map (shown_row l.instance) (drop l.prefix-index l.table) ≡ l.fn.rows.items ++ map (shown_row l.instance) l.table
