use Rattle.transform_model.proofs.Lemmas.{some_rows_ascend, all_rows_ascend}
use Rattle.transform_model.proofs.laws.rows_ascend.Goals as goal

pub returns-clause-some : goal.returns-clause-some
returns-clause-some c = some_rows_ascend

pub returns-clause-all : goal.returns-clause-all
returns-clause-all c = all_rows_ascend
