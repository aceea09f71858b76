use Rattle.config_refusal_laws.proofs.Law.{named_breaks}
use Rattle.config_refusal_laws.proofs.what_is_named_breaks_its_rule.Goals as goal

pub returns : goal.returns
returns c = named_breaks
