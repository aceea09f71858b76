use Rattle.config_check.proofs.EditLaws.{network_put, port_put, policy_put, service_put, chain_put, node_put}
use Rattle.config_check.proofs.edit_laws.a_put_replaces_or_appends.Goals as goal

pub returns-clause-network : goal.returns-clause-network
returns-clause-network c = network_put

pub returns-clause-port : goal.returns-clause-port
returns-clause-port c = port_put

pub returns-clause-policy : goal.returns-clause-policy
returns-clause-policy c = policy_put

pub returns-clause-service : goal.returns-clause-service
returns-clause-service c = service_put

pub returns-clause-chain : goal.returns-clause-chain
returns-clause-chain c = chain_put

pub returns-clause-node : goal.returns-clause-node
returns-clause-node c = node_put
