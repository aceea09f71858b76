use Rattle.std.proofs.Common.{◌≡◌, ◌++◌, map, take}
use Rattle.std.specs.List.{All}
use Rattle.agent_node.specs.Core.{fresh}
use Rattle.running_nodes.specs.Seats.{Forwarding, agent_plan}
use Rattle.running_nodes.specs.Cores.{IsRight}
use Rattle.running_nodes.specs.Fresh.{fresh_outer}
use Rattle.running_nodes.proofs.making.add_agents.Given as goal

abbrev pub invariant-loop-node : goal.invariant-loop-node
invariant-loop-node l = record {
  made : l.agents.items ≡ l.initial.agents.items ++ map (λ x. fresh (agent_plan l.topology x)) (take l.node-index l.node-items);
  edges : l.edges.items ≡ l.initial.edges.items ++ map (λ x. fresh_outer (Forwarding (agent_plan l.topology x))) (take l.node-index l.node-items);
  right : All IsRight l.agents.items;
}
