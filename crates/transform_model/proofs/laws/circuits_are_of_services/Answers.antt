use Rattle.transform_model.proofs.Lemmas.{left_circuits_are_of_services, right_circuits_are_of_services}
use Rattle.transform_model.proofs.laws.circuits_are_of_services.Goals as goal

pub returns-clause-left : goal.returns-clause-left
returns-clause-left c = left_circuits_are_of_services

pub returns-clause-right : goal.returns-clause-right
returns-clause-right c = right_circuits_are_of_services
