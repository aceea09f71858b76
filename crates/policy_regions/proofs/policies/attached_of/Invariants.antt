use Rattle.std.proofs.Common.{◌≡◌, ◌++◌, drop, filter, map}
use Rattle.policy_rules.specs.Related.{attaches}
use Rattle.policy_regions.proofs.policies.attached_of.Given as goal

abbrev pub invariant-loop-policy : goal.invariant-loop-policy
invariant-loop-policy l =
    map (λ p. p.now) l.attached.items ++ filter (attaches l.network) (map (λ p. p.now) (drop l.policy-index l.policies))
    ≡ filter (attaches l.network) (map (λ p. p.now) l.policies)
