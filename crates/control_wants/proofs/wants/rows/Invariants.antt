use Rattle.std.proofs.Common.{◌≡◌, ◌++◌, drop}
use Rattle.std.specs.List.{flat_map}
use Rattle.control_wants.specs.Entries.{shown_rows}
use Rattle.control_wants.proofs.wants.rows.Given as goal

abbrev pub invariant-loop-instance : goal.invariant-loop-instance
invariant-loop-instance l =
    l.rows.items ++ flat_map (shown_rows l.tables) (drop l.instance-index l.instance-items)
    ≡ flat_map (shown_rows l.tables) l.instance-items
