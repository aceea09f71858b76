use Rattle.std.proofs.Common.{◌≡◌, ◌+◌, drop}
use Rattle.ov_types.specs.First.{first_of}
use Rattle.policy_rules.specs.Related.{numbered_from, numbered_rules}
use Rattle.policy_rules.specs.Matching.{match_by}
use Rattle.policy_rules.proofs.decisions.first_match.Given as goal

abbrev pub invariant-loop-rule : goal.invariant-loop-rule
invariant-loop-rule l = record {
  place : l.position ≡ l.rule-index + 1;
  left : first_of (match_by l.from l.to l.tuple) (numbered_from l.policy.sequence l.position (drop l.rule-index l.rule-items)) ≡ first_of (match_by l.from l.to l.tuple) (numbered_rules l.policy);
}
