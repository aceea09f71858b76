use Rattle.policy_rules.proofs.Standing.{between_iff}
use Rattle.policy_rules.proofs.laws.rules_between_are_those_of_shared_policies.Goals as goal

pub returns : goal.returns
returns c = between_iff
