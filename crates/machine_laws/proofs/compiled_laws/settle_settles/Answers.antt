use Rattle.machine_laws.proofs.Final.{settle_settles}
use Rattle.machine_laws.proofs.compiled_laws.settle_settles.Goals as goal

pub returns : goal.returns
returns c = settle_settles
