use Rattle.config_check.proofs.EachRule.{holds_iff}
use Rattle.config_check.proofs.laws.addresses_are_inside.Goals as goal

pub returns : goal.returns
returns c = holds_iff
