use Rattle.std.proofs.Common.{◌≡◌, ◌++◌, drop, flat_map}
use Rattle.inspect_changes.specs.Unchanged.{differences_unless}
use Rattle.inspect_changes.proofs.differences.push_all.Given as goal

abbrev pub invariant-loop-from : goal.invariant-loop-from
invariant-loop-from l =
    l.differences.items ++ flat_map (λ s. flat_map (differences_unless l.before.config l.after.config s) l.networks) (drop l.from-index l.networks)
    ≡ l.fn.differences.items ++ flat_map (λ s. flat_map (differences_unless l.before.config l.after.config s) l.networks) l.networks
