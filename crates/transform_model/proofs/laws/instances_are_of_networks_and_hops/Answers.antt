use Rattle.transform_model.proofs.Lemmas.{instances_are_of_networks_and_hops, instances_are_distinct}
use Rattle.transform_model.proofs.laws.instances_are_of_networks_and_hops.Goals as goal

pub returns-clause-exactly : goal.returns-clause-exactly
returns-clause-exactly c = instances_are_of_networks_and_hops

pub returns-clause-distinct : goal.returns-clause-distinct
returns-clause-distinct c = instances_are_distinct
