use Rattle.config_check.proofs.EachRule.{short_iff}
use Rattle.config_check.proofs.laws.chains_are_short.Goals as goal

pub returns : goal.returns
returns c = short_iff
