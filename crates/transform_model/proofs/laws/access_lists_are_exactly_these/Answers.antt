use Rattle.transform_model.proofs.Lemmas.{access_lists_are_exactly_these}
use Rattle.transform_model.proofs.laws.access_lists_are_exactly_these.Goals as goal

pub returns : goal.returns
returns c = access_lists_are_exactly_these
