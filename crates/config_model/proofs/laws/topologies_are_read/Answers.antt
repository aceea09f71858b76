use Rattle.config_model.proofs.Read.{topology_is_read, controller_is_read, node_is_read}
use Rattle.config_model.proofs.laws.topologies_are_read.Goals as goal

pub returns-clause-topology : goal.returns-clause-topology
returns-clause-topology c = topology_is_read

pub returns-clause-controller : goal.returns-clause-controller
returns-clause-controller c = controller_is_read

pub returns-clause-node : goal.returns-clause-node
returns-clause-node c = node_is_read
