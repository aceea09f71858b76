use Rattle.machine_model.proofs.Asking.{sessions_are_asked}
use Rattle.machine_model.proofs.moment_laws.sessions_are_those_of_the_topology.Goals as goal

pub returns : goal.returns
returns c = λ size positive x l es v. (sessions_are_asked size positive x l es v).1
