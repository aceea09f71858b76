use Rattle.machine_moment_laws.proofs.AgainPlaced.{again}
use Rattle.machine_moment_laws.proofs.again_laws.traces_are_answered_as_delivered_again.Goals as goal

pub returns : goal.returns
returns c = again
