use Rattle.machine_laws.proofs.Refused.{among_with_ties, isolated_with_ties, joined_with_ties}
use Rattle.machine_laws.proofs.isolation_laws.machines_that_keep_ties_are_isolated.Goals as goal

pub returns-clause-configurations : goal.returns-clause-configurations
returns-clause-configurations c = isolated_with_ties

pub returns-clause-ties : goal.returns-clause-ties
returns-clause-ties c = joined_with_ties

pub returns-clause-networks : goal.returns-clause-networks
returns-clause-networks c = among_with_ties
