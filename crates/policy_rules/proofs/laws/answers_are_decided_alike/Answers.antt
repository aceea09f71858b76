use Rattle.policy_rules.proofs.Answers.{decided_alike, opposite}
use Rattle.policy_rules.proofs.laws.answers_are_decided_alike.Goals as goal

pub returns : goal.returns
returns c = record { rule = decided_alike; direction = opposite }
