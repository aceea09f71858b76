use Rattle.transform_model.proofs.Lemmas.{prefixes_are_distinct}
use Rattle.transform_model.proofs.laws.prefixes_are_distinct.Goals as goal

pub returns : goal.returns
returns c = prefixes_are_distinct
