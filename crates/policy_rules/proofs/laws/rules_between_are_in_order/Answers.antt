use Rattle.policy_rules.proofs.Standing.{in_order}
use Rattle.policy_rules.proofs.laws.rules_between_are_in_order.Goals as goal

pub returns : goal.returns
returns c = in_order
