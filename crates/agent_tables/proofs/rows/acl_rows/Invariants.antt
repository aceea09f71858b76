use Rattle.std.proofs.Common.{◌≡◌, ◌++◌}
use Rattle.agent_tables.proofs.rows.acl_rows.Given as goal

abbrev pub invariant-loop-key : goal.invariant-loop-key
invariant-loop-key l = l.rows ++ l.key-iterator ≡ l.acls
