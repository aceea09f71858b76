use Rattle.hitless_cells.proofs.ByKind.{delete_chain, delete_network, delete_node, delete_policy, delete_port, delete_service}
use Rattle.hitless_cells.proofs.laws.deletes_interrupt_nothing_that_goes_on.Goals as goal

pub returns-clause-network : goal.returns-clause-network
returns-clause-network c = delete_network

pub returns-clause-port : goal.returns-clause-port
returns-clause-port c = delete_port

pub returns-clause-policy : goal.returns-clause-policy
returns-clause-policy c = delete_policy

pub returns-clause-service : goal.returns-clause-service
returns-clause-service c = delete_service

pub returns-clause-chain : goal.returns-clause-chain
returns-clause-chain c = delete_chain

pub returns-clause-node : goal.returns-clause-node
returns-clause-node c = delete_node
