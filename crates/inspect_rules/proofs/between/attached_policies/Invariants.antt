use Rattle.std.proofs.Common.{◌≡◌, ◌&&◌, ◌++◌, drop, filter, map}
use Rattle.policy_rules.specs.Related.{attaches}
use Rattle.inspect_rules.proofs.between.attached_policies.Given as goal

abbrev pub invariant-loop-policy : goal.invariant-loop-policy
invariant-loop-policy l =
    map (λ p. p.now) l.policies.items ++ filter (λ p. attaches l.from p && attaches l.to p) (drop l.policy-index l.policy-items)
    ≡ filter (λ p. attaches l.from p && attaches l.to p) l.config.policies
