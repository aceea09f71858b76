use Rattle.std.proofs.Common.{◌≡◌, drop}
use Rattle.std.specs.Prelude.{◌++◌, filter}
use Rattle.policy_rules.specs.Related.{attaches}
use Rattle.schema_transform.proofs.attached.policies_of.Given as goal

abbrev pub invariant-loop-policy : goal.invariant-loop-policy
invariant-loop-policy l =
    l.policies ++ filter (attaches l.network) (drop l.policy-index l.config.policies)
    ≡ filter (attaches l.network) l.config.policies
