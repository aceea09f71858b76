use Rattle.std.proofs.Common.{◌≡◌, ◌++◌, drop, flat_map}
use Rattle.hitless_cells.specs.Ends.{ends_to}
use Rattle.hitless_cells.proofs.ends.push_to_each.Given as goal

abbrev pub invariant-loop-other : goal.invariant-loop-other
invariant-loop-other l = l.list.items ++ flat_map (ends_to l.network l.joints) (drop l.other-index l.others) ≡ l.initial.list.items ++ flat_map (ends_to l.network l.joints) l.others
