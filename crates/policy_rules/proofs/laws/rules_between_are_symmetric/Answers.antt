use Rattle.policy_rules.proofs.Answers.{symmetric}
use Rattle.policy_rules.proofs.laws.rules_between_are_symmetric.Goals as goal

pub returns : goal.returns
returns c = symmetric
