use Rattle.config_model.proofs.FaultKinds.{no_text_for_name, no_text_for_end, no_text_for_direction, no_text_for_address, no_text_for_prefix}
use Rattle.config_model.proofs.laws.texts_are_of_their_kind.Goals as goal

pub returns-clause-name : goal.returns-clause-name
returns-clause-name c = no_text_for_name

pub returns-clause-end : goal.returns-clause-end
returns-clause-end c = no_text_for_end

pub returns-clause-direction : goal.returns-clause-direction
returns-clause-direction c = no_text_for_direction

pub returns-clause-address : goal.returns-clause-address
returns-clause-address c = no_text_for_address

pub returns-clause-prefix : goal.returns-clause-prefix
returns-clause-prefix c = no_text_for_prefix
