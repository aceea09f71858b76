use Rattle.hitless_cells.proofs.ByKind.{new_chain, new_network, new_node, new_policy, new_port, new_service}
use Rattle.hitless_cells.proofs.laws.new_objects_interrupt_nothing.Goals as goal

pub returns-clause-network : goal.returns-clause-network
returns-clause-network c = new_network

pub returns-clause-port : goal.returns-clause-port
returns-clause-port c = new_port

pub returns-clause-policy : goal.returns-clause-policy
returns-clause-policy c = new_policy

pub returns-clause-service : goal.returns-clause-service
returns-clause-service c = new_service

pub returns-clause-chain : goal.returns-clause-chain
returns-clause-chain c = new_chain

pub returns-clause-node : goal.returns-clause-node
returns-clause-node c = new_node
