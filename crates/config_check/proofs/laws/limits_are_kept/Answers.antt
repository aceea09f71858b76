use Rattle.config_check.proofs.EachRule.{limits_iff}
use Rattle.config_check.proofs.laws.limits_are_kept.Goals as goal

pub returns : goal.returns
returns c = limits_iff
