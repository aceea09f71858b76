use Rattle.machine_laws.proofs.Written.{written_settle_settles}
use Rattle.machine_laws.proofs.headline_laws.settle_settles.Goals as goal

pub returns : goal.returns
returns c = written_settle_settles
