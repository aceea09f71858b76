use Rattle.policy_rules.proofs.Taking.{deciding_iff}
use Rattle.policy_rules.proofs.laws.the_first_match_decides.Goals as goal

pub returns : goal.returns
returns c = deciding_iff
