use Rattle.std.proofs.Common.{◌≡◌, ◌+◌, ◌++◌, ◌||◌, drop, filter}
use Rattle.policy_rules.specs.Related.{fits, numbered_from, numbered_rules}
use Rattle.inspect_rules.proofs.between.push_policy.Given as goal

abbrev pub invariant-loop-rule : goal.invariant-loop-rule
invariant-loop-rule l = record {
  place : l.position ≡ l.rule-index + 1;
  rules : l.rules.items ++ filter (λ r. fits r.rule l.from l.to || fits r.rule l.to l.from) (numbered_from l.policy.sequence l.position (drop l.rule-index l.rule-items))
      ≡ l.initial.rules.items ++ filter (λ r. fits r.rule l.from l.to || fits r.rule l.to l.from) (numbered_rules l.policy);
}
