use Rattle.std.proofs.Common.{ap, subst, sym, ◌<◌, ◌≤◌, ◌≡◌, ◌++◌, ◌∙◌, List, get_or, length, map, refl, arith}
use Rattle.std.proofs.lemmas.List.{append-nil}
use Rattle.std.specs.List.{All, Contains}
use Rattle.config_check.specs.Rules.{controller_names}
use Rattle.config_types.specs.declared.topology.Node.{Node}
use Rattle.agent_node.specs.Core.{fresh}
use Rattle.running_nodes.specs.Seats.{Forwarding, agent_plan}
use Rattle.running_nodes.specs.Cores.{IsRight}
use Rattle.running_nodes.specs.Fresh.{fresh_outer}
use Rattle.running_nodes.proofs.Made.{all_right}
use Rattle.running_nodes.proofs.Pushed.{all_pushed, pushed}
use Rattle.running_nodes.proofs.making.add_agents.Goals as goal

pub loop-node-init : goal.loop-node-init
loop-node-init c = record {
  made = sym (append-nil c.args.agents.now.items);
  edges = sym (append-nil c.args.edges.now.items);
  right = c.requires.right;
}

pub loop-node-preserved : goal.loop-node-preserved
loop-node-preserved c = record {
  made = pushed (λ (x : Node). fresh (agent_plan c.args.topology.now x)) c.args.agents.now.items c.loop-node.agents.items c.add_agent.new.agents.items c.as_slice-node-items.result.now c.loop-node.node-index c.node-item.result (fresh (agent_plan c.args.topology.now c.node-item.result)) c.loop-node.invariant.made c.in_ok-add_agent.ensures.agent refl c.node-item.is c.loop-node-test.true;
  edges = pushed (λ (x : Node). fresh_outer (Forwarding (agent_plan c.args.topology.now x))) c.args.edges.now.items c.loop-node.edges.items c.add_agent.new.edges.items c.as_slice-node-items.result.now c.loop-node.node-index c.node-item.result (fresh_outer (Forwarding (agent_plan c.args.topology.now c.node-item.result))) c.loop-node.invariant.edges c.in_ok-add_agent.ensures.edge refl c.node-item.is c.loop-node-test.true;
  right = all_right IsRight c.loop-node.agents.items c.add_agent.new.agents.items (fresh (agent_plan c.args.topology.now c.node-item.result)) c.loop-node.invariant.right c.in_ok-add_agent.ensures.agent c.in_ok-add_agent.ensures.right;
}

pub returns-clause-agents : goal.returns-clause-agents
returns-clause-agents c =
    let all : length c.as_slice-node-items.result.now ≤ c.loop-node.node-index = omega arith in
    all_pushed (λ (x : Node). fresh (agent_plan c.args.topology.now x)) c.args.agents.now.items c.loop-node.agents.items c.as_slice-node-items.result.now c.loop-node.node-index c.loop-node.invariant.made all ∙ ap (λ (xs : List Node). c.args.agents.now.items ++ map (λ (x : Node). fresh (agent_plan c.args.topology.now x)) xs) c.as_slice-node-items.ensures

pub returns-clause-edges : goal.returns-clause-edges
returns-clause-edges c =
    let all : length c.as_slice-node-items.result.now ≤ c.loop-node.node-index = omega arith in
    all_pushed (λ (x : Node). fresh_outer (Forwarding (agent_plan c.args.topology.now x))) c.args.edges.now.items c.loop-node.edges.items c.as_slice-node-items.result.now c.loop-node.node-index c.loop-node.invariant.edges all ∙ ap (λ (xs : List Node). c.args.edges.now.items ++ map (λ (x : Node). fresh_outer (Forwarding (agent_plan c.args.topology.now x))) xs) c.as_slice-node-items.ensures

pub add_agent-requires-clause-listed : goal.add_agent-requires-clause-listed
add_agent-requires-clause-listed c =
    let same : length c.as_slice-node-items.result.now ≡ length c.args.topology.now.nodes = ap length c.as_slice-node-items.ensures in
    let below : c.loop-node.node-index < length c.args.topology.now.nodes = omega arith in
    subst (λ (n : Node). All (Contains (controller_names c.args.topology.now)) n.controllers)
    (sym (c.node-item.is ∙ ap (λ (ns : List Node). get_or ns c.loop-node.node-index c.node-item.result) c.as_slice-node-items.ensures)) (c.requires.set_up.listed c.loop-node.node-index c.node-item.result below)

pub returns-clause-right : goal.returns-clause-right
returns-clause-right c = c.loop-node.invariant.right
