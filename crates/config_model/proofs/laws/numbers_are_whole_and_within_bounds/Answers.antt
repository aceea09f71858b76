use Rattle.config_model.proofs.FaultKinds.{other_number, negative_number, fraction, no_number}
use Rattle.config_model.proofs.laws.numbers_are_whole_and_within_bounds.Goals as goal

pub returns-clause-bounds : goal.returns-clause-bounds
returns-clause-bounds c = other_number

pub returns-clause-negative : goal.returns-clause-negative
returns-clause-negative c = negative_number

pub returns-clause-fraction : goal.returns-clause-fraction
returns-clause-fraction c = fraction

pub returns-clause-kind : goal.returns-clause-kind
returns-clause-kind c = no_number
