use Rattle.std.proofs.Common.{◌≡◌, ◌+◌, ◌++◌, map, take, drop}
use Rattle.std.specs.List.{AllByRecursion}
use Rattle.control_node.specs.Ends.{IsAgentEnd}
use Rattle.control_node.specs.Planning.{AreAgentsTold, agent_plans}
use Rattle.control_node.specs.declared.ends.AgentEnd.{AgentEnd}
use Rattle.control_node.proofs.planning.plan_agents.Given as goal

abbrev pub invariant-loop-end : goal.invariant-loop-end
invariant-loop-end l = record {
  number : l.session ≡ l.first + l.end-index;
  ends : AllByRecursion IsAgentEnd l.ends;
  ids : map (λ (e : AgentEnd). e.id) l.ends ≡ map (λ (e : AgentEnd). e.id) l.fn.ends;
  told : AreAgentsTold l.tables l.first (take l.end-index l.fn.ends) (take l.end-index l.ends);
  rest : drop l.end-index l.ends ≡ drop l.end-index l.fn.ends;
  plans : l.plans.items ≡ l.fn.plans.items ++ agent_plans l.tables l.first (take l.end-index l.fn.ends);
}
