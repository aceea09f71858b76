use Rattle.std.proofs.Common.{◌≡◌, ◌++◌, List, None, length, map, take, drop, subst, sym, ap, ◌∙◌}
use Rattle.node_core.specs.Plans.{ArePlans}
use Rattle.config_node.specs.Core.{kind}
use Rattle.config_node.specs.Ends.{AreEnds, Ends, posts_of}
use Rattle.config_node.specs.Planning.{AreEndsTold, plan_of}
use Rattle.config_node.specs.declared.ends.FeedEnd.{FeedEnd}
use Rattle.config_node.proofs.Posts.{are_plans, ends_told}
use Rattle.config_node.proofs.Turning.{each_sent}
use Rattle.node_core.proofs.Lists.{written}
use Rattle.config_node.proofs.ends.ConfigEndsEnds.plan.Goals as goal

pub invariant_of-self : goal.invariant_of-self
invariant_of-self c =
    let es = c.self.inside.ends.items in
    let new = c.plan_all.new.ends in
    let changed = c.self.inside.changed in
    let long : length new ≡ c.self.inside.ends.len =
    c.plan_all.auto.ends ∙ ap length c.deref_mut.ensures.value ∙ sym c.self.inside.ends.ok.0 in
    let same = c.plan_all.ensures.sessions ∙ ap (map (λ (e : FeedEnd). e.session)) c.deref_mut.ensures.value in
    subst (AreEnds c.self.inside.valid c.self.inside.wants.entries changed)
    (sym (written c.self.inside.ends.len new es long))
    (ends_told c.self.inside.valid c.self.inside.wants.entries changed changed es new c.self.invariant same
    c.plan_all.ensures.sent)

pub invariant_of-self-2 : goal.invariant_of-self-2
invariant_of-self-2 c =
    let es = c.self.inside.ends.items in
    let new = c.plan_all.new.ends in
    let wants = c.self.inside.wants.entries in
    let long : length new ≡ c.self.inside.ends.len =
    c.plan_all.auto.ends ∙ ap length c.deref_mut.ensures.value ∙ sym c.self.inside.ends.ok.0 in
    let same = c.plan_all.ensures.sessions ∙ ap (map (λ (e : FeedEnd). e.session)) c.deref_mut.ensures.value in
    let told = each_sent wants es new
    (subst (λ (ds : List FeedEnd). AreEndsTold wants ds new) c.deref_mut.ensures.value c.in_ok-plans.ensures.told) in
    subst (AreEnds c.self.inside.valid wants None) (sym (written c.self.inside.ends.len new es long))
    (ends_told c.self.inside.valid wants c.self.inside.changed None es new c.self.invariant same told)

pub returns-clause-plans : goal.returns-clause-plans
returns-clause-plans c =
    let es = c.self.inside.ends.items in
    let new = c.plan_all.new.ends in
    let wants = c.self.inside.wants.entries in
    let plans = c.in_ok-plans.plans.items in
    let long : length new ≡ c.self.inside.ends.len =
    c.plan_all.auto.ends ∙ ap length c.deref_mut.ensures.value ∙ sym c.self.inside.ends.ok.0 in
    let told = subst (λ (ds : List FeedEnd). AreEndsTold wants ds new) c.deref_mut.ensures.value c.in_ok-plans.ensures.told in
    let made = c.in_ok-plans.ensures.plans ∙ ap (map (plan_of wants)) c.deref_mut.ensures.value in
    subst (λ (s : Ends). ArePlans (kind s.setup) s.posts
    (posts_of (take c.self.inside.ends.len (new ++ drop (length new) es))) plans) c.self.view_is
    (subst (λ (ds : List FeedEnd). ArePlans (kind c.self.inside.valid) (posts_of es) (posts_of ds) plans)
    (sym (written c.self.inside.ends.len new es long))
    (are_plans c.self.inside.valid wants es new plans c.self.invariant.wanted told made))
