use Rattle.std.specs.Prelude.{option_copied}
use Rattle.std.specs.Option.{option_map}
use Rattle.std.proofs.Common.{length, subst, sym, [], ◌∷◌, ◌≡◌, ◌+◌}
use Rattle.agent_node.specs.Core.{fresh}
use Rattle.running_nodes.specs.Seats.{Forwarding, agent_plan}
use Rattle.running_nodes.specs.Fresh.{fresh_agents_of, fresh_outer, fresh_outers_of, replaced_at}
use Rattle.running_nodes.proofs.Seating.{both_within, none_new, one_more_within, one_new, right_replaced}
use Rattle.running_nodes.proofs.making.reseat_agent.Goals as goal

pub take_away-requires-clause-edge : goal.take_away-requires-clause-edge
take_away-requires-clause-edge c =
    both_within c.args.place c.args.first (length c.args.agents.now.items) (length c.args.edges.now.items) c.requires.there c.requires.edges

pub put_last-requires-clause-there : goal.put_last-requires-clause-there
put_last-requires-clause-there c =
    (one_more_within c.args.place c.args.first c.args.agents.now.items c.args.edges.now.items
    (fresh (agent_plan c.args.topology.now c.in-Some.node.now)) (fresh_outer (Forwarding (agent_plan c.args.topology.now c.in-Some.node.now)))
    c.add_agent.new.agents.items c.add_agent.new.edges.items c.requires.there c.requires.edges c.in_ok-add_agent-in-Some.ensures.agent c.in_ok-add_agent-in-Some.ensures.edge).0

pub put_last-requires-clause-edge : goal.put_last-requires-clause-edge
put_last-requires-clause-edge c =
    (one_more_within c.args.place c.args.first c.args.agents.now.items c.args.edges.now.items
    (fresh (agent_plan c.args.topology.now c.in-Some.node.now)) (fresh_outer (Forwarding (agent_plan c.args.topology.now c.in-Some.node.now)))
    c.add_agent.new.agents.items c.add_agent.new.edges.items c.requires.there c.requires.edges c.in_ok-add_agent-in-Some.ensures.agent c.in_ok-add_agent-in-Some.ensures.edge).1

pub returns-in-None-clause-right : goal.returns-in-None-clause-right
returns-in-None-clause-right c =
    right_replaced c.args.place [] c.args.agents.now.items c.take_away.new.agents.items none_new c.requires.right c.take_away.ensures.agents

pub returns-in_ok-add_agent-in-Some-clause-agents : goal.returns-in_ok-add_agent-in-Some-clause-agents
returns-in_ok-add_agent-in-Some-clause-agents c =
    subst (λ o. c.put_last.new.agents.items ≡ replaced_at c.args.place (fresh_agents_of c.args.topology.now (option_copied o)) c.args.agents.now.items) (sym c.in-Some.is)
    (c.put_last.ensures.agents c.args.agents.now.items (fresh (agent_plan c.args.topology.now c.in-Some.node.now)) c.in_ok-add_agent-in-Some.ensures.agent)

pub returns-in_ok-add_agent-in-Some-clause-edges : goal.returns-in_ok-add_agent-in-Some-clause-edges
returns-in_ok-add_agent-in-Some-clause-edges c =
    subst (λ o. c.put_last.new.edges.items ≡ replaced_at (option_map (λ i. c.args.first + i) c.args.place) (fresh_outers_of c.args.topology.now (option_copied o)) c.args.edges.now.items) (sym c.in-Some.is)
    (c.put_last.ensures.edges c.args.edges.now.items (fresh_outer (Forwarding (agent_plan c.args.topology.now c.in-Some.node.now))) c.in_ok-add_agent-in-Some.ensures.edge)

pub returns-in_ok-add_agent-in-Some-clause-right : goal.returns-in_ok-add_agent-in-Some-clause-right
returns-in_ok-add_agent-in-Some-clause-right c =
    right_replaced c.args.place (fresh (agent_plan c.args.topology.now c.in-Some.node.now) ∷ []) c.args.agents.now.items c.put_last.new.agents.items
    (one_new (fresh (agent_plan c.args.topology.now c.in-Some.node.now)) c.in_ok-add_agent-in-Some.ensures.right) c.requires.right
    (c.put_last.ensures.agents c.args.agents.now.items (fresh (agent_plan c.args.topology.now c.in-Some.node.now)) c.in_ok-add_agent-in-Some.ensures.agent)
