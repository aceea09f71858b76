use Rattle.machine_laws.proofs.Written.{written_rounds_settle}
use Rattle.machine_laws.proofs.headline_laws.rounds_settle.Goals as goal

pub returns : goal.returns
returns c = written_rounds_settle
