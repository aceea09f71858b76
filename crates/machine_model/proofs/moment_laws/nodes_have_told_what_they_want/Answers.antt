use Rattle.machine_model.proofs.EveryMoment.{nodes_have_told}
use Rattle.machine_model.proofs.moment_laws.nodes_have_told_what_they_want.Goals as goal

pub returns : goal.returns
returns c = λ size positive x named es. nodes_have_told size positive x es named
