use Rattle.transform_model.proofs.Lemmas.{none_is_lost}
use Rattle.transform_model.proofs.laws.none_is_lost.Goals as goal

pub returns : goal.returns
returns c = none_is_lost
