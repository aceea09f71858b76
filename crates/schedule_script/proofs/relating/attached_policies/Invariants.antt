use Rattle.std.proofs.Common.{◌≡◌, ◌++◌, drop, filter, map}
use Rattle.policy_rules.specs.Related.{attaches}
use Rattle.schedule_script.proofs.relating.attached_policies.Given as goal

abbrev pub invariant-loop-policy : goal.invariant-loop-policy
invariant-loop-policy l =
    map (λ p. p.now) l.policies.items ++ filter (attaches l.network) (drop l.policy-index l.policy-items)
    ≡ filter (attaches l.network) l.config.policies
