use Rattle.machine_moment_laws.proofs.SchedulePlaced.{isolated}
use Rattle.machine_moment_laws.proofs.tied_laws.deliveries_are_isolated.Goals as goal

pub returns : goal.returns
returns c = isolated
