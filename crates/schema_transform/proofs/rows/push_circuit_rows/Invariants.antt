use Rattle.std.proofs.Common.{◌≡◌, drop}
use Rattle.std.specs.List.{filter_map}
use Rattle.std.specs.Prelude.{◌++◌, map}
use Rattle.transform_model.specs.Tables.{circuit_row, circuits_in}
use Rattle.schema_transform.specs.Held.{circuit_of}
use Rattle.schema_transform.proofs.rows.push_circuit_rows.Given as goal

abbrev pub invariant-loop-circuit : goal.invariant-loop-circuit
invariant-loop-circuit l =
    l.rows.items ++ filter_map (circuit_row l.topology l.instance)
    (circuits_in l.instance (map circuit_of (drop l.circuit-index l.circuits)))
    ≡ l.fn.rows.items ++ filter_map (circuit_row l.topology l.instance)
    (circuits_in l.instance (map circuit_of l.circuits))
