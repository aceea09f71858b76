use Rattle.machine_laws.proofs.Runs.{runs_isolate}
use Rattle.machine_laws.proofs.isolation_laws.runs_that_keep_their_ties_are_isolated.Goals as goal

pub returns : goal.returns
returns c = runs_isolate
