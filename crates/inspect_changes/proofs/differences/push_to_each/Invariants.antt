use Rattle.std.proofs.Common.{◌≡◌, ◌++◌, drop, flat_map}
use Rattle.inspect_changes.specs.Unchanged.{differences_towards}
use Rattle.inspect_changes.proofs.differences.push_to_each.Given as goal

abbrev pub invariant-loop-to : goal.invariant-loop-to
invariant-loop-to l =
    l.differences.items ++ flat_map (differences_towards l.before.config l.after.config l.from.is_kept l.from.before l.from.after) (drop l.to-index l.others)
    ≡ l.initial.differences.items ++ flat_map (differences_towards l.before.config l.after.config l.from.is_kept l.from.before l.from.after) l.others
