use Rattle.scenario_gen.proofs.Numbers.{networks, ports, policies, services}
use Rattle.scenario_gen.proofs.laws.numbers_go_up.Goals as goal

pub returns-clause-networks : goal.returns-clause-networks
returns-clause-networks c = networks

pub returns-clause-ports : goal.returns-clause-ports
returns-clause-ports c = ports

pub returns-clause-policies : goal.returns-clause-policies
returns-clause-policies c = policies

pub returns-clause-services : goal.returns-clause-services
returns-clause-services c = services
