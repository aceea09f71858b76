use Rattle.transform_model.proofs.Lemmas.{needed_instances_exist}
use Rattle.transform_model.proofs.laws.needed_instances_exist.Goals as goal

pub returns : goal.returns
returns c = needed_instances_exist
