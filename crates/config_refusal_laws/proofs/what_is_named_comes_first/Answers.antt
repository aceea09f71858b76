use Rattle.config_refusal_laws.proofs.NamedFirst.{named_first}
use Rattle.config_refusal_laws.proofs.what_is_named_comes_first.Goals as goal

pub returns : goal.returns
returns c = named_first
