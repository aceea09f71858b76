use Rattle.machine_model.proofs.EveryMoment.{whole_are_joined}
use Rattle.machine_model.proofs.moment_laws.sessions_that_are_not_down_are_joined.Goals as goal

pub returns : goal.returns
returns c = whole_are_joined
