use Rattle.std.proofs.Common.{◌∙◌, sym, ap, subst, length, []}
use Rattle.std.proofs.lemmas.List.{length-replicate}
use Rattle.node_core.specs.Keeping.{AreFew, AreOfLive, nothing_kept}
use Rattle.node_core.specs.Resting.{nothings}
use Rattle.node_core.proofs.Kept.{none_few, none_live, nothings_long}
use Rattle.control_node.specs.Agents.{AreRetired, with_retired}
use Rattle.control_node.specs.Core.{Core, fresh}
use Rattle.control_node.specs.declared.plan.ControlPlan.{ControlPlan}
use Rattle.control_node.proofs.node.ControlNode.restart.Goals as goal

pub invariant_of-self : goal.invariant_of-self
invariant_of-self c =
    let n = length c.self.inside.node.ends.posts in (
      ap length c.restart.ensures.none ∙ length-replicate n [] ∙ sym (ap length c.restart.ensures.posts ∙ nothings_long n),
      subst AreFew (sym c.restart.ensures.none) (none_few n),
      subst (AreOfLive c.restart.new.self.ends.posts) (sym c.restart.ensures.none) (none_live c.restart.new.self.ends.posts n),
      subst (λ (p : ControlPlan). AreRetired (with_retired p c.self.inside.retired.items)) (sym c.restart.ensures.stays) c.self.invariant.3,
    )

pub returns : goal.returns
returns c =
    let many = sym c.sessions-sessions.ensures.posts ∙ c.sessions-sessions.ensures.plan in
    let posts = c.restart.ensures.posts ∙ ap nothings many in
    let kept = c.restart.ensures.none ∙ ap nothing_kept many in
    (λ i. record { plan = with_retired (c.restart.ensures.stays i) c.self.inside.retired.items; posts = posts i; kept = kept i; failed = c.restart.ensures.works i })
    ∙ ap (λ (n : Core). fresh n.plan) c.self.view_is
