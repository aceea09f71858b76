use Rattle.config_check.proofs.EachRule.{numbers_iff}
use Rattle.config_check.proofs.laws.numbers_are_distinct.Goals as goal

pub returns : goal.returns
returns c = numbers_iff
