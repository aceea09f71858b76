use Rattle.schema_transform.specs.Held.{circuit_of}
use Rattle.schema_transform.specs.Towards.{rows_if_in}
use Rattle.schema_transform.proofs.Putting.{rows_go_on}
use Rattle.schema_transform.proofs.rows.push_rows_towards.Goals as goal

pub loop-circuit-preserved : goal.loop-circuit-preserved
loop-circuit-preserved c =
    rows_go_on (rows_if_in c.args.topology.now c.args.config.now c.args.instance c.args.network.now) circuit_of c.args.circuits.now c.loop-circuit.circuit-index c.circuit-item.result c.loop-circuit.rows.items _ _
    c.loop-circuit-test.true c.circuit-item.is c.in_ok-push_rows_if_in.ensures c.loop-circuit.invariant
