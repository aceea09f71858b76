use Rattle.node_routes.proofs.One.{hears_one}
use Rattle.node_routes.proofs.Some.{heard_some}
use Rattle.node_routes.proofs.laws.what_is_heard_is_one.Goals as goal

pub returns-clause-some : goal.returns-clause-some
returns-clause-some c = heard_some

pub returns-clause-one : goal.returns-clause-one
returns-clause-one c = hears_one
