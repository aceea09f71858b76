use Rattle.machine_model.proofs.EveryMoment.{ends_are_proper}
use Rattle.machine_model.proofs.moment_laws.ends_are_proper.Goals as goal

pub returns : goal.returns
returns c = ends_are_proper
