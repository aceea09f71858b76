use Rattle.std.proofs.Common.{◌≡◌}
use Rattle.std.specs.Prelude.{◌++◌}
use Rattle.transform_model.specs.Uses.{hops_from}
use Rattle.schema_transform.proofs.transform.push_hops.Given as goal

abbrev pub invariant-loop-place : goal.invariant-loop-place
invariant-loop-place l =
    l.instances.items ≡ l.fn.instances.items ++ hops_from l.found.number 0 l.place
