use Rattle.config_check.proofs.EachRule.{apart_around_iff}
use Rattle.config_check.proofs.laws.related_networks_are_apart.Goals as goal

pub returns : goal.returns
returns c = apart_around_iff
