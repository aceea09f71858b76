use Rattle.std.proofs.Common.{◌≡◌}
use Rattle.std.specs.Prelude.{map, take}
use Rattle.schema_transform.proofs.transform.copies.Given as goal

abbrev pub invariant-loop-controller : goal.invariant-loop-controller
invariant-loop-controller l =
    l.list ≡ map (λ x. l.rows) (take l._controller-index l.controllers)
