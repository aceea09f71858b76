use Rattle.std.specs.List.{All}
use Rattle.std.proofs.Common.{ap, subst, sym, ◌∙◌, ◌++◌, ◌∷◌, [], List, map, refl}
use Rattle.ov_types.specs.declared.rows.NodeId.{NodeId}
use Rattle.config_types.specs.declared.topology.Node.{Node}
use Rattle.config_types.specs.declared.topology.Topology.{Topology}
use Rattle.running_nodes.specs.ControlNode.Core as control
use Rattle.agent_node.specs.Core as agent
use Rattle.running_nodes.specs.Seats.{Configuring, agent_plan}
use Rattle.running_nodes.specs.Cores.{IsRight, IsVacated}
use Rattle.running_nodes.specs.Fresh.{IsSetUp, fresh_outer, opening_plan}
use Rattle.running_nodes.specs.Halves.{Outer}
use Rattle.running_nodes.proofs.Made.{all_vacated, none_right, outers_are}
use Rattle.running_nodes.proofs.SetUp.{set_up}
use Rattle.running_nodes.proofs.making.add_all.Goals as goal

pub add_config-requires : goal.add_config-requires
add_config-requires c =
    set_up c.args.valid.now.topology c.args.valid.now.config c.topology-topology.ensures.topology_form c.topology-topology.ensures.valid

pub add_controls-requires : goal.add_controls-requires
add_controls-requires c =
    subst (λ (t : Topology). IsSetUp t) (sym c.topology-topology.ensures.part)
    (set_up c.args.valid.now.topology c.args.valid.now.config c.topology-topology.ensures.topology_form c.topology-topology.ensures.valid)

pub add_agents-requires-clause-set_up : goal.add_agents-requires-clause-set_up
add_agents-requires-clause-set_up c =
    subst (λ (t : Topology). IsSetUp t) (sym c.topology-topology.ensures.part)
    (set_up c.args.valid.now.topology c.args.valid.now.config c.topology-topology.ensures.topology_form c.topology-topology.ensures.valid)

pub add_agents-requires-clause-right : goal.add_agents-requires-clause-right
add_agents-requires-clause-right c = none_right IsRight c.args.agents.now.items c.requires.agents

pub returns-clause-set_up : goal.returns-clause-set_up
returns-clause-set_up c =
    set_up c.args.valid.now.topology c.args.valid.now.config c.topology-topology.ensures.topology_form c.topology-topology.ensures.valid

pub returns-clause-controls : goal.returns-clause-controls
returns-clause-controls c =
    c.in_ok-add_controls.ensures.controls
    ∙ (ap (λ (xs : List control.Core). xs ++ map (λ (x : NodeId). control.fresh (opening_plan c.topology-topology.result.now x)) c.topology-topology.result.now.controllers) c.requires.controls
    ∙ ap (λ (t : Topology). map (λ (x : NodeId). control.fresh (opening_plan t x)) t.controllers) c.topology-topology.ensures.part)

pub returns-clause-agents : goal.returns-clause-agents
returns-clause-agents c =
    c.in_ok-add_agents.ensures.agents
    ∙ (ap (λ (xs : List agent.Core). xs ++ map (λ (x : Node). agent.fresh (agent_plan c.topology-topology.result.now x)) c.topology-topology.result.now.nodes) c.requires.agents
    ∙ ap (λ (t : Topology). map (λ (x : Node). agent.fresh (agent_plan t x)) t.nodes) c.topology-topology.ensures.part)

pub returns-clause-right : goal.returns-clause-right
returns-clause-right c = c.in_ok-add_agents.ensures.right

pub returns-clause-edges : goal.returns-clause-edges
returns-clause-edges c =
    outers_are c.args.valid.now c.topology-topology.result.now c.add_config.new.edges.items c.add_controls.new.edges.items c.add_agents.new.edges.items
    (fresh_outer (Configuring c.args.valid.now)) c.topology-topology.ensures.part refl
    (c.in_ok-add_config.ensures ∙ ap (λ (os : List Outer). os ++ fresh_outer (Configuring c.args.valid.now) ∷ []) c.requires.edges)
    c.in_ok-add_controls.ensures.edges c.in_ok-add_agents.ensures.edges

pub returns-clause-all : goal.returns-clause-all
returns-clause-all c =
    let t = c.topology-topology.result.now in
    subst (All IsVacated)
    (sym (c.in_ok-add_controls.ensures.controls
    ∙ ap (λ (xs : List control.Core). xs ++ map (λ (x : NodeId). control.fresh (opening_plan t x)) t.controllers) c.requires.controls))
    (all_vacated t t.controllers)
