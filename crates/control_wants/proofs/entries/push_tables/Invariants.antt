use Rattle.std.proofs.Common.{◌≡◌, ◌++◌, drop}
use Rattle.std.specs.List.{flat_map}
use Rattle.control_wants.specs.Entries.{told_rows}
use Rattle.control_wants.proofs.entries.push_tables.Given as goal

abbrev pub invariant-loop-instance : goal.invariant-loop-instance
invariant-loop-instance l =
    l.told.items ++ flat_map (told_rows l.tables) (drop l.instance-index l.instances)
    ≡ l.fn.told.items ++ flat_map (told_rows l.tables) l.instances
