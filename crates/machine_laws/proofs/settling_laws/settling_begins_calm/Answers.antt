use Rattle.machine_laws.proofs.RanksSettle.{settling_begins_calm}
use Rattle.machine_laws.proofs.settling_laws.settling_begins_calm.Goals as goal

pub returns : goal.returns
returns c = settling_begins_calm
