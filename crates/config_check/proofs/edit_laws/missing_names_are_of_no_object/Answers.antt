use Rattle.config_check.proofs.EditLaws.{network_missing, port_missing, policy_missing, service_missing, chain_missing, node_missing}
use Rattle.config_check.proofs.edit_laws.missing_names_are_of_no_object.Goals as goal

pub returns-clause-network : goal.returns-clause-network
returns-clause-network c = network_missing

pub returns-clause-port : goal.returns-clause-port
returns-clause-port c = port_missing

pub returns-clause-policy : goal.returns-clause-policy
returns-clause-policy c = policy_missing

pub returns-clause-service : goal.returns-clause-service
returns-clause-service c = service_missing

pub returns-clause-chain : goal.returns-clause-chain
returns-clause-chain c = chain_missing

pub returns-clause-node : goal.returns-clause-node
returns-clause-node c = node_missing
