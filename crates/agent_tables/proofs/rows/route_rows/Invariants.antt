use Rattle.std.proofs.Common.{◌≡◌, ◌++◌}
use Rattle.agent_tables.specs.Routes.{routes_of}
use Rattle.agent_tables.proofs.rows.route_rows.Given as goal

abbrev pub invariant-loop-instance : goal.invariant-loop-instance
invariant-loop-instance l = l.rows ++ routes_of l.instance-iterator ≡ routes_of l.fibs.entries
