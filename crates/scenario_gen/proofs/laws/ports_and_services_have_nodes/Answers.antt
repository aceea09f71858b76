use Rattle.scenario_gen.proofs.There.{ports_have_nodes, services_have_nodes}
use Rattle.scenario_gen.proofs.laws.ports_and_services_have_nodes.Goals as goal

pub returns-clause-ports : goal.returns-clause-ports
returns-clause-ports c = ports_have_nodes

pub returns-clause-services : goal.returns-clause-services
returns-clause-services c = services_have_nodes
