use Rattle.std.proofs.Common.{◌≡◌, ◌++◌, map}
use Rattle.agent_tables.proofs.fibs.instances.Given as goal

abbrev pub invariant-loop-instance : goal.invariant-loop-instance
invariant-loop-instance l =
    l.instances.items ++ map (λ t. t.0) l.instance-iterator ≡ map (λ t. t.0) l.fibs.entries
