use Rattle.config_refusal_laws.proofs.Order.{in_order}
use Rattle.config_refusal_laws.proofs.what_breaks_a_rule_is_refused_by_it_or_earlier.Goals as goal

pub returns : goal.returns
returns c = in_order
