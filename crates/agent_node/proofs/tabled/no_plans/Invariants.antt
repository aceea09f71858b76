use Rattle.agent_node.specs.Planning.{AreSilent}
use Rattle.agent_node.proofs.tabled.no_plans.Given as goal

abbrev pub invariant-loop-session : goal.invariant-loop-session
invariant-loop-session l = AreSilent l.plans.items l._session
