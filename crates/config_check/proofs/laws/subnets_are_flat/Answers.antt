use Rattle.config_check.proofs.EachRule.{flat_iff}
use Rattle.config_check.proofs.laws.subnets_are_flat.Goals as goal

pub returns : goal.returns
returns c = flat_iff
