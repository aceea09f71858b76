use Rattle.std.proofs.Common.{◌≡◌, drop}
use Rattle.std.specs.List.{filter_map}
use Rattle.std.specs.Prelude.{map}
use Rattle.transform_model.specs.Objects.{circuit_object, with_objects}
use Rattle.schema_transform.specs.Held.{circuit_of}
use Rattle.schema_transform.proofs.objects.put_circuits.Given as goal

abbrev pub invariant-loop-circuit : goal.invariant-loop-circuit
invariant-loop-circuit l =
    with_objects l.low.entries
    (filter_map (circuit_object l.topology) (map circuit_of (drop l.circuit-index l.circuits)))
    ≡ with_objects l.fn.low.entries (filter_map (circuit_object l.topology) (map circuit_of l.circuits))
