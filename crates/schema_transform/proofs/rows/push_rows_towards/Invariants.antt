use Rattle.std.proofs.Common.{◌≡◌, drop}
use Rattle.std.specs.Prelude.{◌++◌, flat_map, map}
use Rattle.schema_transform.specs.Held.{circuit_of}
use Rattle.schema_transform.specs.Towards.{rows_if_in}
use Rattle.schema_transform.proofs.rows.push_rows_towards.Given as goal

abbrev pub invariant-loop-circuit : goal.invariant-loop-circuit
invariant-loop-circuit l =
    l.rows.items ++ flat_map (rows_if_in l.topology l.config l.instance l.network)
    (map circuit_of (drop l.circuit-index l.circuits))
    ≡ l.fn.rows.items ++ flat_map (rows_if_in l.topology l.config l.instance l.network)
    (map circuit_of l.circuits)
