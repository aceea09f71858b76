use Rattle.std.proofs.Common.{◌≡◌, ◌++◌, drop}
use Rattle.packet_trace.specs.Tables.{rows_in}
use Rattle.agent_tables.proofs.rows.add_rows.Given as goal

abbrev pub invariant-loop-route : goal.invariant-loop-route
invariant-loop-route l = l.rows ++ rows_in l.instance (drop l.route-index l.route-items) ≡ l.fn.rows ++ rows_in l.instance l.fib
