use Rattle.std.proofs.Common.{ap, subst, sym, ◌<◌, ◌≤◌, ◌≡◌, ◌∙◌, [], List, get_or, length, map, arith}
use Rattle.std.specs.List.{Contains}
use Rattle.config_check.specs.Rules.{controller_names}
use Rattle.running_nodes.specs.MachineModel.Setup.{Name, id_of}
use Rattle.ov_types.specs.declared.rows.NodeId.{NodeId}
use Rattle.agent_node.specs.declared.plan.AgentPlan.{AgentPlan}
use Rattle.running_nodes.specs.Seats.{controller_named}
use Rattle.running_nodes.proofs.Pushed.{all_pushed, pushed}
use Rattle.running_nodes.proofs.plans.agent_plan.Goals as goal

pub loop-name-init : goal.loop-name-init
loop-name-init c = c.new-controllers.ensures

pub controller_named-requires : goal.controller_named-requires
controller_named-requires c =
    let same : length c.as_slice-name-items.result.now ≡ length c.args.node.now.controllers = ap length c.as_slice-name-items.ensures in
    let below : c.loop-name.name-index < length c.args.node.now.controllers = omega arith in
    subst (λ (name : Name). Contains (controller_names c.args.topology.now) name)
    (sym (c.name-item.is ∙ ap (λ (names : List Name). get_or names c.loop-name.name-index c.name-item.result) c.as_slice-name-items.ensures))
    (c.requires c.loop-name.name-index c.name-item.result below)

pub loop-name-preserved : goal.loop-name-preserved
loop-name-preserved c =
    pushed (controller_named c.args.topology.now) [] c.loop-name.controllers c.push.new.self c.as_slice-name-items.result.now c.loop-name.name-index c.name-item.result c.controller_named.result c.loop-name.invariant c.in_ok-push.ensures.ok c.controller_named.ensures c.name-item.is c.loop-name-test.true

pub returns : goal.returns
returns c =
    let all : length c.as_slice-name-items.result.now ≤ c.loop-name.name-index = omega arith in
    let made : c.loop-name.controllers ≡ map (controller_named c.args.topology.now) c.args.node.now.controllers =
    all_pushed (controller_named c.args.topology.now) [] c.loop-name.controllers c.as_slice-name-items.result.now c.loop-name.name-index c.loop-name.invariant all
    ∙ ap (λ (names : List Name). map (controller_named c.args.topology.now) names) c.as_slice-name-items.ensures in
    ap (λ (me : NodeId). let p : AgentPlan = record { me = me; controllers = c.loop-name.controllers } in p) c.id_of.ensures
    ∙ ap (λ (cs : List NodeId). let p : AgentPlan = record { me = id_of c.args.node.now; controllers = cs } in p) made
