use Rattle.std.proofs.Common.{◌≡◌, ◌<◌, ◌+◌, ◌∙◌, ℕ, List, [], ap, arith, false, length, length-set, subst, sym}
use Rattle.node_core.specs.NodeModel.Step.{Steps}
use Rattle.control_node.specs.Agents.{AreRetired, closing, inserted, is_retired, with_retired}
use Rattle.control_node.specs.Core.{Core, sessions}
use Rattle.control_node.specs.Wanting.{kind}
use Rattle.control_node.specs.declared.plan.ControlPlan.{ControlPlan}
use Rattle.control_node.proofs.Retired.{inserted_ascends}
use Rattle.control_node.proofs.node.ControlNode.retire.Goals as goal

pub invariant_of-self-2 : goal.invariant_of-self-2
invariant_of-self-2 g c =
    let inside = c.self.inside in
    let plan = inside.node.ends.plan in
    let session = c.args.session in
    let low = subst (λ (n : Core). length n.plan.peers < session) (sym c.self.view_is) c.requires.agent in
    let high = subst (λ (n : Core). session < sessions n.plan) (sym c.self.view_is) c.requires.known in
    let absent = subst (λ (n : Core). is_retired n.plan session ≡ false) (sym c.self.view_is) c.requires.kept in
    let now = c.in_ok-retired.ensures ∙ ap (λ (ns : List ℕ). inserted ns session) c.deref.ensures.value in (
      c.close_and_tell.ensures.swept.long ∙ length-set inside.node.inboxes.items session [] ∙ c.self.invariant.0 ∙ sym c.close_and_tell.ensures.sessions,
      c.close_and_tell.ensures.few c.self.invariant.1,
      c.close_and_tell.ensures.live,
      subst (λ (p : ControlPlan). AreRetired (with_retired p c.in_ok-retired.retired.items)) (sym c.close_and_tell.ensures.plan)
          (subst (λ (ns : List ℕ). AreRetired (with_retired plan ns)) (sym now)
          (inserted_ascends session (1 + length plan.peers) (sessions plan) inside.retired.items c.self.invariant.3 (omega (arith, low)) high absent)),
    )

pub returns-clause-steps : goal.returns-clause-steps
returns-clause-steps g c =
    subst (λ (n : Core). Steps (kind n.plan) g.L.Link.accepted g.L.Link.breaks g.L.Link.faults n.posts c.close_and_tell.new.node.ends.posts
    c.args.session closing c.args.links.now c.close_and_tell.new.links c.in_ok-lowest.lowest) c.self.view_is c.in_ok-lowest.ensures.steps
