use Rattle.transform_model.proofs.Lemmas.{some_rows_are_kept, all_rows_are_kept}
use Rattle.transform_model.proofs.laws.rows_are_kept.Goals as goal

pub returns-clause-some : goal.returns-clause-some
returns-clause-some c = some_rows_are_kept

pub returns-clause-all : goal.returns-clause-all
returns-clause-all c = all_rows_are_kept
