use Rattle.std.proofs.Common.{◌≡◌, ◌+◌, ◌++◌, drop}
use Rattle.policy_rules.specs.Related.{numbered_from, numbered_rules}
use Rattle.policy_rules.proofs.numbered.push_rules.Given as goal

abbrev pub invariant-loop-rule : goal.invariant-loop-rule
invariant-loop-rule l = record {
  place : l.position ≡ l.rule-index + 1;
  rules : l.rules.items ++ numbered_from l.policy.sequence l.position (drop l.rule-index l.rule-items) ≡ l.initial.rules.items ++ numbered_rules l.policy;
}
