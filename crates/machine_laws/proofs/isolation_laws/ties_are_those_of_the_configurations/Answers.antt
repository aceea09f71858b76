use Rattle.machine_laws.proofs.Come.{ties_come}
use Rattle.machine_laws.proofs.Runs.{all_are_tied}
use Rattle.machine_laws.proofs.isolation_laws.ties_are_those_of_the_configurations.Goals as goal

pub returns-clause-each : goal.returns-clause-each
returns-clause-each c = ties_come

pub returns-clause-all : goal.returns-clause-all
returns-clause-all c = all_are_tied
