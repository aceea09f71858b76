use Rattle.config_check.proofs.EachRule.{references_iff}
use Rattle.config_check.proofs.laws.references_exist.Goals as goal

pub returns : goal.returns
returns c = references_iff
