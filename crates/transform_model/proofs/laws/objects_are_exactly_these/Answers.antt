use Rattle.transform_model.proofs.Lemmas.{objects_are_exactly_these}
use Rattle.transform_model.proofs.laws.objects_are_exactly_these.Goals as goal

pub returns : goal.returns
returns c = objects_are_exactly_these
