use Rattle.config_check.proofs.EachRule.{reserved_iff}
use Rattle.config_check.proofs.laws.circuits_are_reserved.Goals as goal

pub returns : goal.returns
returns c = reserved_iff
