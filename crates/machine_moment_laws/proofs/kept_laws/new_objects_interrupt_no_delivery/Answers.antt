use Rattle.machine_moment_laws.proofs.Interrupting.{new_chains, new_networks, new_nodes, new_policies, new_ports, new_services}
use Rattle.machine_moment_laws.proofs.kept_laws.new_objects_interrupt_no_delivery.Goals as goal

pub returns-clause-network : goal.returns-clause-network
returns-clause-network c = new_networks

pub returns-clause-port : goal.returns-clause-port
returns-clause-port c = new_ports

pub returns-clause-policy : goal.returns-clause-policy
returns-clause-policy c = new_policies

pub returns-clause-service : goal.returns-clause-service
returns-clause-service c = new_services

pub returns-clause-chain : goal.returns-clause-chain
returns-clause-chain c = new_chains

pub returns-clause-node : goal.returns-clause-node
returns-clause-node c = new_nodes
