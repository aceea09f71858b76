use Rattle.machine_laws.proofs.RanksSettle.{ranks_settle}
use Rattle.machine_laws.proofs.settling_laws.rounds_settle.Goals as goal

pub returns : goal.returns
returns c = ranks_settle
