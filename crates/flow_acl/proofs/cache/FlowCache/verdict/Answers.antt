use Rattle.std.proofs.Common.{◌≡◌, ◌∙◌, ◌⊎◌, List, None, ap, sym, subst}
use Rattle.std.specs.Map.{lookup}
use Rattle.ov_types.specs.declared.verdict.Verdict.{Verdict}
use Rattle.flow_acl.specs.Flows.{AreOf, flow_of, is_flow, with_new, used}
use Rattle.flow_acl.specs.declared.flow.FlowKey.{FlowKey}
use Rattle.flow_acl.proofs.Keeping.{found_says, kept_says, unused, used_says}
use Rattle.flow_acl.proofs.cache.FlowCache.verdict.Goals as goal

pub returns-in-Some-clause-verdict : goal.returns-in-Some-clause-verdict
returns-in-Some-clause-verdict c =
    found_says c.args.acls.now c.args.network c.args.packet.now c.args.self.now c.in-Some.verdict c.requires (cc)

pub returns-in-Some-clause-kept : goal.returns-in-Some-clause-kept
returns-in-Some-clause-kept c =
    subst (AreOf c.args.acls.now) (sym c.recall.ensures.used) (used_says c.args.acls.now c.flow_of-flow.result c.args.self.now c.requires)

pub remember-requires : goal.remember-requires
remember-requires c =
    let none : lookup (is_flow c.flow_of-flow.result) c.args.self.now ≡ None = cc in
    ap (lookup (is_flow c.flow_of-flow.result)) (c.recall.ensures.used ∙ unused c.flow_of-flow.result c.args.self.now none) ∙ none

pub returns-clause-kept : goal.returns-clause-kept
returns-clause-kept c =
    kept_says c.args.acls.now c.args.network c.args.packet.now c.evaluate-verdict.result c.recall.new.self c.remember.new.self c.evaluate-verdict.ensures
    (subst (AreOf c.args.acls.now) (sym c.recall.ensures.used) (used_says c.args.acls.now c.flow_of-flow.result c.args.self.now c.requires))
    (subst (λ (f : FlowKey). (c.remember.new.self ≡ with_new f c.evaluate-verdict.result c.recall.new.self) ⊎ (c.remember.new.self ≡ c.recall.new.self)) c.flow_of-flow.ensures c.remember.ensures)

pub returns-clause-new : goal.returns-clause-new
returns-clause-new c = λ none.
    let f = flow_of c.args.network c.args.packet.now in
    let before : c.recall.new.self ≡ c.args.self.now =
    c.recall.ensures.used ∙ ap (λ (g : FlowKey). used g c.args.self.now) c.flow_of-flow.ensures ∙ unused f c.args.self.now none in
    subst (λ (old : List (FlowKey × Verdict)). (c.remember.new.self ≡ with_new f c.evaluate-verdict.result old) ⊎ (c.remember.new.self ≡ old)) before
    (subst (λ (g : FlowKey). (c.remember.new.self ≡ with_new g c.evaluate-verdict.result c.recall.new.self) ⊎ (c.remember.new.self ≡ c.recall.new.self)) c.flow_of-flow.ensures c.remember.ensures)
