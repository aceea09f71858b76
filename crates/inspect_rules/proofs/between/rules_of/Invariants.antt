use Rattle.std.proofs.Common.{◌≡◌, ◌++◌, ◌||◌, drop, filter, flat_map, map}
use Rattle.policy_rules.specs.Related.{fits, numbered_rules}
use Rattle.inspect_rules.proofs.between.rules_of.Given as goal

abbrev pub invariant-loop-policy : goal.invariant-loop-policy
invariant-loop-policy l =
    l.rules.items ++ flat_map (λ p. filter (λ r. fits r.rule l.from l.to || fits r.rule l.to l.from) (numbered_rules p)) (map (λ p. p.now) (drop l.policy-index l.policies))
    ≡ flat_map (λ p. filter (λ r. fits r.rule l.from l.to || fits r.rule l.to l.from) (numbered_rules p)) (map (λ p. p.now) l.policies)
