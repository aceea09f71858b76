use Rattle.machine_laws.proofs.RanksSettle.{settle_settles_ranked}
use Rattle.machine_laws.proofs.settling_laws.settle_settles.Goals as goal

pub returns : goal.returns
returns c = settle_settles_ranked
