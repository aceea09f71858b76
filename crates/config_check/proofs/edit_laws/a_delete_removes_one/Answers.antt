use Rattle.config_check.proofs.EditLaws.{network_deleted, port_deleted, policy_deleted, service_deleted, chain_deleted, node_deleted}
use Rattle.config_check.proofs.edit_laws.a_delete_removes_one.Goals as goal

pub returns-clause-network : goal.returns-clause-network
returns-clause-network c = network_deleted

pub returns-clause-port : goal.returns-clause-port
returns-clause-port c = port_deleted

pub returns-clause-policy : goal.returns-clause-policy
returns-clause-policy c = policy_deleted

pub returns-clause-service : goal.returns-clause-service
returns-clause-service c = service_deleted

pub returns-clause-chain : goal.returns-clause-chain
returns-clause-chain c = chain_deleted

pub returns-clause-node : goal.returns-clause-node
returns-clause-node c = node_deleted
