use Rattle.std.proofs.Common.{◌≡◌, ◌+◌, ◌++◌, drop, flat_map}
use Rattle.policy_rules.specs.Related.{numbered_from, numbered_rules}
use Rattle.acl_compile.specs.Oriented.{entries_of}
use Rattle.acl_compile.proofs.entries.push_policy.Given as goal

abbrev pub invariant-loop-rule : goal.invariant-loop-rule
invariant-loop-rule l = record {
  place : l.position ≡ l.rule-index + 1;
  entries : l.entries.items ++ flat_map (entries_of l.config l.from l.to) (numbered_from l.policy.sequence l.position (drop l.rule-index l.rule-items))
      ≡ l.initial.entries.items ++ flat_map (entries_of l.config l.from l.to) (numbered_rules l.policy);
}
