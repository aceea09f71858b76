use Rattle.machine_laws.proofs.Final.{all_rounds_settle}
use Rattle.machine_laws.proofs.compiled_laws.rounds_settle.Goals as goal

pub returns : goal.returns
returns c = all_rounds_settle
