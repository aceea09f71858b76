use Rattle.std.proofs.Common.{ap, length, subst, sym, ◌+◌, ◌<◌, ◌≡◌, ◌∙◌, arith}
use Rattle.running_nodes.specs.ControlNode.ControlPlan.{ControlPlan}
use Rattle.running_nodes.specs.Controls.{controls_of}
use Rattle.running_nodes.specs.Seats.{Controlling, others_of}
use Rattle.running_nodes.specs.Fresh.{opening_plan}
use Rattle.running_nodes.proofs.Made.{few_others, few_sessions}
use Rattle.running_nodes.proofs.making.add_control.Goals as goal

pub others_of_control-requires-clause-none : goal.others_of_control-requires-clause-none
others_of_control-requires-clause-none c = ap (λ (p : ControlPlan). p.retired) c.in_ok-plan.ensures

pub new-requires : goal.new-requires
new-requires c =
    let long : length c.in_ok-others.others ≡ length (others_of (Controlling (controls_of (opening_plan c.args.topology.now c.args.controller.now)))) =
    ap length c.in_ok-others.ensures ∙ ap (λ (p : ControlPlan). length (others_of (Controlling (controls_of p)))) c.in_ok-plan.ensures in
    omega (arith, long, few_others c.args.topology.now c.args.controller.now c.requires.set_up.controllers c.requires.set_up.nodes)

pub new-requires-2-clause-few : goal.new-requires-2-clause-few
new-requires-2-clause-few c =
    subst (λ (p : ControlPlan). length p.peers + length p.agents < 65535) (sym c.in_ok-plan.ensures)
    (few_sessions c.args.topology.now c.args.controller.now c.requires.set_up.controllers c.requires.set_up.nodes)
