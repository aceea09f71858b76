use Rattle.std.proofs.Common.{◌∙◌, IfOk, arith, subst, sym}
use Rattle.node_core.specs.NodeModel.Step.{Steps}
use Rattle.control_node.specs.Agents.{AreRetired, as_it_is, with_retired}
use Rattle.control_node.specs.Core.{Core}
use Rattle.control_node.specs.Wanting.{kind}
use Rattle.control_node.specs.declared.plan.ControlPlan.{ControlPlan}
use Rattle.control_node.proofs.node.ControlNode.tell_each.Goals as goal

pub tell_all-requires-clause-some : goal.tell_all-requires-clause-some
tell_all-requires-clause-some g c = omega (arith, c.sessions-sessions.ensures.posts, c.sessions-sessions.ensures.plan)

pub invariant_of-self : goal.invariant_of-self
invariant_of-self g c =
    let inside = c.self.inside in (
      c.tell_all.ensures.swept.long ∙ c.self.invariant.0 ∙ sym c.tell_all.ensures.sessions,
      c.tell_all.ensures.few c.self.invariant.1,
      c.tell_all.ensures.live,
      subst (λ (p : ControlPlan). AreRetired (with_retired p inside.retired.items)) (sym c.tell_all.ensures.plan) c.self.invariant.3,
    )

pub returns-clause-steps : goal.returns-clause-steps
returns-clause-steps g c =
    subst (λ (n : Core). IfOk c.tell_all.result (λ lowest. Steps (kind n.plan) g.L.Link.accepted g.L.Link.breaks g.L.Link.faults n.posts
    c.tell_all.new.node.ends.posts 0 (as_it_is n.posts) c.args.links.now c.tell_all.new.links lowest)) c.self.view_is c.tell_all.ensures.steps
