use Rattle.config_model.proofs.FaultKinds.{no_list, other_count}
use Rattle.config_model.specs.Fields.{name_at}
use Rattle.config_model.proofs.laws.lists_are_of_allowed_lengths.Goals as goal

pub returns-clause-kind : goal.returns-clause-kind
returns-clause-kind c = no_list name_at

pub returns-clause-count : goal.returns-clause-count
returns-clause-count c = other_count name_at
