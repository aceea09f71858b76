use Rattle.config_check.proofs.EachRule.{two_named_iff}
use Rattle.config_check.proofs.laws.chain_rules_name_two.Goals as goal

pub returns : goal.returns
returns c = two_named_iff
