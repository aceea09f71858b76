use Rattle.transform_model.proofs.Lemmas.{tables_have_exactly_these_rows}
use Rattle.transform_model.proofs.laws.tables_have_exactly_these_rows.Goals as goal

pub returns : goal.returns
returns c = tables_have_exactly_these_rows
