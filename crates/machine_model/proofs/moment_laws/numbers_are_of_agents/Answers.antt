use Rattle.machine_model.proofs.Numbered.{numbers_fit}
use Rattle.machine_model.proofs.moment_laws.numbers_are_of_agents.Goals as goal

pub returns : goal.returns
returns c = numbers_fit
