use Rattle.transform_model.proofs.Lemmas.{labels_are_exactly_these}
use Rattle.transform_model.proofs.laws.labels_are_exactly_these.Goals as goal

pub returns : goal.returns
returns c = labels_are_exactly_these
