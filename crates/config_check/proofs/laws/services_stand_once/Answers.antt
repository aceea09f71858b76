use Rattle.config_check.proofs.EachRule.{once_iff}
use Rattle.config_check.proofs.laws.services_stand_once.Goals as goal

pub returns : goal.returns
returns c = once_iff
