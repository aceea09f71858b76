use Rattle.std.proofs.Common.{subst, sym, ◌∙◌, ap, length}
use Rattle.std.proofs.lemmas.Bool.{true≢false}
use Rattle.std.specs.Option.{IfSome}
use Rattle.node_core.specs.Plans.{ArePlans}
use Rattle.node_laws.specs.Stepped.{AreTold}
use Rattle.node_core.specs.NodeModel.Agent.{Holdings}
use Rattle.agent_tables.specs.Listed.{HaveSame, list_between}
use Rattle.agent_tables.specs.Touched.{HaveRoutes}
use Rattle.agent_node.specs.Core.{kind}
use Rattle.agent_node.specs.Ends.{Forwarding}
use Rattle.agent_node.specs.Planning.{AreSilent}
use Rattle.agent_node.proofs.Led.{holdings_on, if_ok, silent_plans, told_by_plans}
use Rattle.agent_node.proofs.tabled.TabledEndsEnds.plan.Goals as goal

pub returns-then-self-clause-plans : goal.returns-then-self-clause-plans
returns-then-self-clause-plans c =
    let now = c.args.self.now.posts in
    if_ok (λ plans. AreSilent plans.items c.sessions.result) (λ plans. ArePlans kind now now plans.items) c.no_plans.result
    (λ plans silent. silent_plans now plans.items c.sessions.result
    (c.sessions.ensures.posts ∙ ap (λ (f : Forwarding). length f.posts) c.self.view_is)
    (subst (λ (f : Forwarding). AreTold kind f.posts) c.self.view_is (c.self.invariant.2 c.if-self.true)) silent)
    c.no_plans.ensures

pub invariant_of-self-2 : goal.invariant_of-self-2
invariant_of-self-2 c =
    let before = c.self.inside.ends.posts in
    let after = c.plan.new.self.posts in (
      λ off. absurd (true≢false (sym off)),
      λ on. subst (λ (h : Holdings). HaveRoutes h c.self.inside.tables)
          (sym (holdings_on before after c.in_ok-plans.plans.items c.plan.ensures.long c.in_ok-plans.ensures.plans))
          (c.self.invariant.1 on),
      λ _. told_by_plans before after c.in_ok-plans.plans.items c.plan.ensures.long c.in_ok-plans.ensures.plans,
      subst (λ (h : Holdings). IfSome c.self.inside.list (λ n. HaveSame (list_between n) h c.self.inside.tables))
          (sym (holdings_on before after c.in_ok-plans.plans.items c.plan.ensures.long c.in_ok-plans.ensures.plans))
          c.self.invariant.3,
    )
