use Rattle.config_check.proofs.EachRule.{names_iff}
use Rattle.config_check.proofs.laws.names_are_distinct.Goals as goal

pub returns : goal.returns
returns c = names_iff
