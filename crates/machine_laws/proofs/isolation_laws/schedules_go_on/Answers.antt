use Rattle.machine_laws.proofs.Refused.{goes_on}
use Rattle.machine_laws.proofs.isolation_laws.schedules_go_on.Goals as goal

pub returns : goal.returns
returns c = goes_on
