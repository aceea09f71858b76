use Rattle.config_model.proofs.Read.{config_is_read, network_is_read, port_is_read, policy_is_read, rule_is_read, service_is_read, chain_is_read}
use Rattle.config_model.proofs.laws.configurations_are_read.Goals as goal

pub returns-clause-config : goal.returns-clause-config
returns-clause-config c = config_is_read

pub returns-clause-network : goal.returns-clause-network
returns-clause-network c = network_is_read

pub returns-clause-port : goal.returns-clause-port
returns-clause-port c = port_is_read

pub returns-clause-policy : goal.returns-clause-policy
returns-clause-policy c = policy_is_read

pub returns-clause-rule : goal.returns-clause-rule
returns-clause-rule c = rule_is_read

pub returns-clause-service : goal.returns-clause-service
returns-clause-service c = service_is_read

pub returns-clause-chain : goal.returns-clause-chain
returns-clause-chain c = chain_is_read
