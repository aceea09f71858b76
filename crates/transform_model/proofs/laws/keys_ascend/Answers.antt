use Rattle.transform_model.proofs.Lemmas.{keys_ascend}
use Rattle.transform_model.proofs.laws.keys_ascend.Goals as goal

pub returns : goal.returns
returns c = keys_ascend
