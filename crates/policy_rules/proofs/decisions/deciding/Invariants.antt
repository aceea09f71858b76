use Rattle.std.proofs.Common.{◌≡◌, drop}
use Rattle.policy_rules.specs.Matching.{deciding}
use Rattle.policy_rules.specs.Least.{least}
use Rattle.policy_rules.proofs.Ordered.{among}
use Rattle.policy_rules.proofs.decisions.deciding.Given as goal

abbrev pub invariant-loop-policy : goal.invariant-loop-policy
invariant-loop-policy l = least l.best (among l.from l.to l.tuple (drop l.policy-index l.policy-items)) ≡ deciding l.config l.from l.to l.tuple
