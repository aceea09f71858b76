use Rattle.scenario_gen.proofs.Places.{network_there, port_there}
use Rattle.scenario_gen.proofs.laws.tenants_have_networks_and_ports.Goals as goal

pub returns-clause-networks : goal.returns-clause-networks
returns-clause-networks c = network_there

pub returns-clause-ports : goal.returns-clause-ports
returns-clause-ports c = port_there
