use Rattle.machine_moment_laws.proofs.SchedulePlaced.{as_compiled}
use Rattle.machine_moment_laws.proofs.tied_laws.answers_are_as_compiled.Goals as goal

pub returns : goal.returns
returns c = as_compiled
