use Rattle.config_check.proofs.EachRule.{ends_named_iff}
use Rattle.config_check.proofs.laws.chain_rules_name_networks.Goals as goal

pub returns : goal.returns
returns c = ends_named_iff
