use Rattle.transform_model.proofs.Lemmas.{routes_are_exactly_these}
use Rattle.transform_model.proofs.laws.routes_are_exactly_these.Goals as goal

pub returns : goal.returns
returns c = routes_are_exactly_these
