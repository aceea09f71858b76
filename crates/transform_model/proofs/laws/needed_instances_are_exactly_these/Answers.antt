use Rattle.transform_model.proofs.Lemmas.{needed_instances_are_exactly_these}
use Rattle.transform_model.proofs.laws.needed_instances_are_exactly_these.Goals as goal

pub returns : goal.returns
returns c = needed_instances_are_exactly_these
