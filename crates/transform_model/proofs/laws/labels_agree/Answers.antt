use Rattle.transform_model.proofs.Lemmas.{rows_agree_with_labels, labels_agree_with_rows}
use Rattle.transform_model.proofs.laws.labels_agree.Goals as goal

pub returns-clause-rows : goal.returns-clause-rows
returns-clause-rows c = rows_agree_with_labels

pub returns-clause-labels : goal.returns-clause-labels
returns-clause-labels c = labels_agree_with_rows
