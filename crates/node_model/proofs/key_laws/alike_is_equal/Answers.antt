use Rattle.node_model.proofs.Alike.{same_value_decides}
use Rattle.node_model.proofs.key_laws.alike_is_equal.Goals as goal

pub returns-clause-values : goal.returns-clause-values
returns-clause-values c = same_value_decides
