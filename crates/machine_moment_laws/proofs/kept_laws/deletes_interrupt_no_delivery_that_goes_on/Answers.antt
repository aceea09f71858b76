use Rattle.machine_moment_laws.proofs.Interrupting.{chain_deletes, network_deletes, node_deletes, policy_deletes, port_deletes, service_deletes}
use Rattle.machine_moment_laws.proofs.kept_laws.deletes_interrupt_no_delivery_that_goes_on.Goals as goal

pub returns-clause-network : goal.returns-clause-network
returns-clause-network c = network_deletes

pub returns-clause-port : goal.returns-clause-port
returns-clause-port c = port_deletes

pub returns-clause-policy : goal.returns-clause-policy
returns-clause-policy c = policy_deletes

pub returns-clause-service : goal.returns-clause-service
returns-clause-service c = service_deletes

pub returns-clause-chain : goal.returns-clause-chain
returns-clause-chain c = chain_deletes

pub returns-clause-node : goal.returns-clause-node
returns-clause-node c = node_deletes
