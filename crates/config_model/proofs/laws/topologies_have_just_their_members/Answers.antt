use Rattle.config_model.proofs.HasJust.{topology_has_just, controller_has_just, node_has_just}
use Rattle.config_model.proofs.laws.topologies_have_just_their_members.Goals as goal

pub returns-clause-topology : goal.returns-clause-topology
returns-clause-topology c = topology_has_just

pub returns-clause-controller : goal.returns-clause-controller
returns-clause-controller c = controller_has_just

pub returns-clause-node : goal.returns-clause-node
returns-clause-node c = node_has_just
