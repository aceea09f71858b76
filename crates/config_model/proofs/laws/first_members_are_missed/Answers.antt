use Rattle.config_model.proofs.Missed.{topology_missed, controller_missed, node_missed, network_missed, port_missed, policy_missed, rule_missed, service_missed, chain_missed, packet_missed, compile_missed, reach_missed}
use Rattle.config_model.proofs.laws.first_members_are_missed.Goals as goal

pub returns-clause-topology : goal.returns-clause-topology
returns-clause-topology c = topology_missed

pub returns-clause-controller : goal.returns-clause-controller
returns-clause-controller c = controller_missed

pub returns-clause-node : goal.returns-clause-node
returns-clause-node c = node_missed

pub returns-clause-network : goal.returns-clause-network
returns-clause-network c = network_missed

pub returns-clause-port : goal.returns-clause-port
returns-clause-port c = port_missed

pub returns-clause-policy : goal.returns-clause-policy
returns-clause-policy c = policy_missed

pub returns-clause-rule : goal.returns-clause-rule
returns-clause-rule c = rule_missed

pub returns-clause-service : goal.returns-clause-service
returns-clause-service c = service_missed

pub returns-clause-chain : goal.returns-clause-chain
returns-clause-chain c = chain_missed

pub returns-clause-packet : goal.returns-clause-packet
returns-clause-packet c = packet_missed

pub returns-clause-compile : goal.returns-clause-compile
returns-clause-compile c = compile_missed

pub returns-clause-reach : goal.returns-clause-reach
returns-clause-reach c = reach_missed
