use Rattle.config_check.proofs.Validity.{valid_iff}
use Rattle.config_check.proofs.laws.none_broken_is_valid.Goals as goal

pub returns : goal.returns
returns c = valid_iff
