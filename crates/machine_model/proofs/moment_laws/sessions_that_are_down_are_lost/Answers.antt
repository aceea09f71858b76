use Rattle.machine_model.proofs.EveryMoment.{down_are_lost}
use Rattle.machine_model.proofs.moment_laws.sessions_that_are_down_are_lost.Goals as goal

pub returns : goal.returns
returns c = down_are_lost
