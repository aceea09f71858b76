use Rattle.std.proofs.Common.{◌≡◌, ◌++◌, drop, flat_map, map}
use Rattle.policy_rules.specs.Related.{numbered_rules}
use Rattle.acl_compile.specs.Oriented.{entries_of}
use Rattle.acl_compile.proofs.entries.entries_of.Given as goal

abbrev pub invariant-loop-policy : goal.invariant-loop-policy
invariant-loop-policy l =
    l.entries.items ++ flat_map (entries_of l.config l.from l.to) (flat_map numbered_rules (map (λ p. p.now) (drop l.policy-index l.policies)))
    ≡ flat_map (entries_of l.config l.from l.to) (flat_map numbered_rules (map (λ p. p.now) l.policies))
