use Rattle.config_check.proofs.EachRule.{addresses_iff}
use Rattle.config_check.proofs.laws.addresses_are_distinct.Goals as goal

pub returns : goal.returns
returns c = addresses_iff
