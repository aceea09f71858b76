use Rattle.scenario_gen.proofs.Numbers.{networks_count, ports_counted, policies_count, services_count, chains_count}
use Rattle.scenario_gen.proofs.laws.tenants_have_equal_shares.Goals as goal

pub returns-clause-networks : goal.returns-clause-networks
returns-clause-networks c = networks_count

pub returns-clause-ports : goal.returns-clause-ports
returns-clause-ports c = ports_counted

pub returns-clause-policies : goal.returns-clause-policies
returns-clause-policies c = policies_count

pub returns-clause-services : goal.returns-clause-services
returns-clause-services c = services_count

pub returns-clause-chains : goal.returns-clause-chains
returns-clause-chains c = chains_count
