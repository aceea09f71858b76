use Rattle.config_refusal_laws.proofs.Invalid.{breaks_invalid}
use Rattle.config_refusal_laws.proofs.what_breaks_a_rule_is_not_valid.Goals as goal

pub returns : goal.returns
returns c = breaks_invalid
