use Rattle.std.proofs.Common.{◌≡◌, ◌∙◌, ◌⊎◌, List, None, ap, subst}
use Rattle.std.specs.Map.{lookup}
use Rattle.ov_types.specs.declared.verdict.Verdict.{Verdict}
use Rattle.flow_acl.specs.Flows.{is_flow, with_new}
use Rattle.flow_acl.specs.declared.flow.FlowKey.{FlowKey}
use Rattle.flow_acl.proofs.Keeping.{put_or_not}
use Rattle.flow_acl.proofs.cache.FlowCache.remember.Goals as goal

pub returns : goal.returns
returns c =
    let none : lookup (is_flow c.args.flow) c.self.inside.kept.entries ≡ None = ap (lookup (is_flow c.args.flow)) c.self.view_is ∙ c.requires in
    subst (λ (old : List (FlowKey × Verdict)). (c.put-kept.new.self.entries ≡ with_new c.args.flow c.args.verdict old) ⊎ (c.put-kept.new.self.entries ≡ old)) c.self.view_is
    (put_or_not c.put-kept.result c.args.flow c.args.verdict c.self.inside.kept c.put-kept.new.self c.self.invariant none c.put-kept.ensures.entries c.put-kept.ensures.err)
