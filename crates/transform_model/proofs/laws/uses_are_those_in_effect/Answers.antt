use Rattle.transform_model.proofs.Lemmas.{uses_are_those_in_effect, uses_are_distinct}
use Rattle.transform_model.proofs.laws.uses_are_those_in_effect.Goals as goal

pub returns-clause-exactly : goal.returns-clause-exactly
returns-clause-exactly c = uses_are_those_in_effect

pub returns-clause-distinct : goal.returns-clause-distinct
returns-clause-distinct c = uses_are_distinct
