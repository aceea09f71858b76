use Rattle.config_model.proofs.FaultKinds.{other_name, other_end, other_direction, other_protocol, other_address, other_prefix, other_action}
use Rattle.config_model.proofs.laws.other_texts_are_out_of_range.Goals as goal

pub returns-clause-name : goal.returns-clause-name
returns-clause-name c = other_name

pub returns-clause-end : goal.returns-clause-end
returns-clause-end c = other_end

pub returns-clause-direction : goal.returns-clause-direction
returns-clause-direction c = other_direction

pub returns-clause-protocol : goal.returns-clause-protocol
returns-clause-protocol c = other_protocol

pub returns-clause-address : goal.returns-clause-address
returns-clause-address c = other_address

pub returns-clause-prefix : goal.returns-clause-prefix
returns-clause-prefix c = other_prefix

pub returns-clause-action : goal.returns-clause-action
returns-clause-action c = other_action
