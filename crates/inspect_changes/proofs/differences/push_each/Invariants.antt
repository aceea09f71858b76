use Rattle.std.proofs.Common.{◌≡◌, ◌++◌, drop, flat_map}
use Rattle.inspect_changes.specs.Fates.{differences_of}
use Rattle.inspect_changes.proofs.differences.push_each.Given as goal

abbrev pub invariant-loop-compared : goal.invariant-loop-compared
invariant-loop-compared l =
    l.differences.items ++ flat_map (differences_of l.from.name l.to.name l.before.config l.after.config) (drop l.compared-index l.regions)
    ≡ l.initial.differences.items ++ flat_map (differences_of l.from.name l.to.name l.before.config l.after.config) l.regions
