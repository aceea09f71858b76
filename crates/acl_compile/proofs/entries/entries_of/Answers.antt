use Rattle.acl_compile.proofs.Kept.{bounded_at}
use Rattle.acl_compile.proofs.entries.entries_of.Goals as goal

pub push_policy-requires-clause-few : goal.push_policy-requires-clause-few
push_policy-requires-clause-few c =
    bounded_at c.args.policies.now c.loop-policy.policy-index c.policy-item.result c.requires.few c.loop-policy-test.true c.policy-item.is
