use Rattle.std.proofs.Common.{◌≡◌, ◌++◌}
use Rattle.agent_tables.proofs.rows.label_rows.Given as goal

abbrev pub invariant-loop-label : goal.invariant-loop-label
invariant-loop-label l = l.rows ++ l.label-iterator ≡ l.labels
