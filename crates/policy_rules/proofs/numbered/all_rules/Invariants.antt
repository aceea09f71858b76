use Rattle.std.proofs.Common.{◌≡◌, ◌++◌, drop, flat_map}
use Rattle.policy_rules.specs.Related.{numbered_rules}
use Rattle.policy_rules.specs.Related.{all_rules}
use Rattle.policy_rules.proofs.numbered.all_rules.Given as goal

abbrev pub invariant-loop-policy : goal.invariant-loop-policy
invariant-loop-policy l = l.rules.items ++ flat_map numbered_rules (drop l.policy-index l.policy-items) ≡ all_rules l.config
