use Rattle.std.proofs.Common.{◌≡◌, drop}
use Rattle.std.specs.Prelude.{◌+◌, ◌++◌, map}
use Rattle.transform_model.specs.Uses.{right_circuits_from}
use Rattle.schema_transform.specs.Held.{circuit_of}
use Rattle.schema_transform.proofs.circuits.right_circuits.Given as goal

abbrev pub invariant-loop-service : goal.invariant-loop-service
invariant-loop-service l =
    (l.place ≡ l.service-index + 1)
    × (map circuit_of l.circuits ++ right_circuits_from l.number l.place (drop l.service-index l.services)
    ≡ right_circuits_from l.number 1 l.services)
