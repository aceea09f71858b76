use Rattle.std.proofs.Common.{◌≡◌, length, subst, sym, ap, ◌∙◌, List, map, take, drop, ◌++◌}
use Rattle.node_core.specs.Plans.{ArePlans}
use Rattle.node_core.specs.Told.{AllFit, up_of}
use Rattle.node_core.specs.NodeModel.Agent.{wanted}
use Rattle.node_core.specs.NodeModel.Step.{Post}
use Rattle.agent_tables.specs.Views.{heard_of}
use Rattle.agent_tables.specs.declared.hearing.Hearing.{Hearing}
use Rattle.agent_node.specs.Core.{kind}
use Rattle.agent_node.specs.Ends.{Ends, Sent, posts_of}
use Rattle.agent_node.specs.Planning.{ArePlanned}
use Rattle.agent_node.proofs.Posts.{held_fits, are_plans, posts_long}
use Rattle.node_core.proofs.Lists.{written}
use Rattle.agent_tables.proofs.Telling.{can_be_told}
use Rattle.agent_node.proofs.ends.AgentEnds.plan.Goals as goal

pub wanted-requires : goal.wanted-requires
wanted-requires c = rw c.deref.ensures.value (held_fits c.self.inside.hearings.items c.self.invariant.held)

pub plan_all-requires-clause-wanted : goal.plan_all-requires-clause-wanted
plan_all-requires-clause-wanted c =
    let fit = held_fits c.self.inside.hearings.items c.self.invariant.held in
    let heard : map heard_of c.deref.result.now ≡ map heard_of c.self.inside.hearings.items =
    ap (map heard_of) c.deref.ensures.value in
    subst AllFit (sym c.in_ok-wanted.ensures) (rw heard (can_be_told (map heard_of c.self.inside.hearings.items) fit))

pub returns-clause-long : goal.returns-clause-long
returns-clause-long c =
    posts_long c.self.inside.hearings.items _
    ∙ sym (posts_long c.self.inside.hearings.items c.self.inside.sents.items)
    ∙ ap (λ (e : Ends). length e.posts) c.self.view_is

pub returns-in_err-plans-clause-long : goal.returns-in_err-plans-clause-long
returns-in_err-plans-clause-long c =
    posts_long c.self.inside.hearings.items _
    ∙ sym (posts_long c.self.inside.hearings.items c.self.inside.sents.items)
    ∙ ap (λ (e : Ends). length e.posts) c.self.view_is

pub returns-clause-plans : goal.returns-clause-plans
returns-clause-plans c =
    let hearings = c.self.inside.hearings.items in
    let sents = c.self.inside.sents.items in
    let new = c.plan_all.new.sents in
    let wants = up_of c.in_ok-wanted.wanted.entries in
    let plans = c.in_ok-plans.plans.items in
    let long : length new ≡ c.self.inside.sents.len =
    c.plan_all.auto.sents ∙ ap length c.deref_mut.ensures.value ∙ sym c.self.inside.sents.ok.0 in
    let is : wants ≡ wanted (map heard_of hearings) =
    c.in_ok-wanted.ensures ∙ ap (λ (hs : List Hearing). wanted (map heard_of hs)) c.deref.ensures.value in
    let planned : ArePlanned hearings sents new wants plans (length hearings) =
    rw (c.deref-2.ensures.value, c.deref_mut.ensures.value) at c.in_ok-plans.ensures.planned in
    subst (λ (ps : List Post). ArePlans kind ps
    (posts_of hearings (take c.self.inside.sents.len (new ++ drop (length new) sents))) plans)
    (ap (λ (e : Ends). e.posts) c.self.view_is)
    (subst (λ (ss : List Sent). ArePlans kind (posts_of hearings sents) (posts_of hearings ss) plans)
    (sym (written c.self.inside.sents.len new sents long))
    (are_plans hearings sents new wants plans is planned))
