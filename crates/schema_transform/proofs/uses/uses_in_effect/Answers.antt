use Rattle.schema_transform.proofs.Formed.{policy_formed}
use Rattle.schema_transform.proofs.uses.uses_in_effect.Goals as goal

pub push_uses-requires-clause-form : goal.push_uses-requires-clause-form
push_uses-requires-clause-form c =
    policy_formed c.args.config.now c.as_slice-policy-items.result.now c.loop-policy.policy-index c.policy-item.result
    c.requires c.as_slice-policy-items.ensures c.loop-policy-test.true c.policy-item.is
