use Rattle.std.proofs.Common.{◌++◌, ◌∙◌, ap, map}
use Rattle.std.specs.Prelude.{option_to_list}
use Rattle.transform_model.specs.Uses.{use_by}
use Rattle.schema_transform.specs.HeldUses.{use_of}
use Rattle.schema_transform.proofs.Formed.{action_formed}
use Rattle.schema_transform.proofs.Putting.{uses_go_on}
use Rattle.schema_transform.proofs.uses.push_uses.Goals as goal

pub use_by-requires-clause-form : goal.use_by-requires-clause-form
use_by-requires-clause-form c =
    action_formed c.args.policy.now c.as_slice-rule-items.result.now c.loop-rule.rule-index c.rule-item.result
    c.requires.form c.as_slice-rule-items.ensures c.loop-rule-test.true c.rule-item.is

pub loop-rule-preserved : goal.loop-rule-preserved
loop-rule-preserved c =
    uses_go_on (λ r. use_by c.args.config.now c.args.policy.now r r.action) c.as_slice-rule-items.result.now
    c.loop-rule.rule-index c.rule-item.result (map use_of c.loop-rule.uses.items) _ _
    c.loop-rule-test.true c.rule-item.is
    (c.in_ok-push_use.ensures ∙ ap (λ o. map use_of c.loop-rule.uses.items ++ option_to_list o) c.in_ok-found.ensures)
    c.loop-rule.invariant
