use Rattle.schedule_script.proofs.Having.{port_iff, related_back, relates_iff, use_iff}
use Rattle.schedule_script.proofs.laws.ties_are_of_ports_rules_and_relations.Goals as goal

pub returns-clause-ports : goal.returns-clause-ports
returns-clause-ports c = λ t d p n v. port_iff t d v p n

pub returns-clause-uses : goal.returns-clause-uses
returns-clause-uses c = λ t d number pair v. use_iff t d v number pair

pub returns-clause-related : goal.returns-clause-related
returns-clause-related c = relates_iff

pub returns-clause-both_ways : goal.returns-clause-both_ways
returns-clause-both_ways c = related_back
