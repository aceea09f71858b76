use Rattle.config_check.proofs.EachRule.{straight_iff}
use Rattle.config_check.proofs.laws.chains_are_straight.Goals as goal

pub returns : goal.returns
returns c = straight_iff
