use Rattle.machine_laws.proofs.Moments.{all_is_tied}
use Rattle.machine_laws.proofs.isolation_laws.all_that_is_told_is_tied.Goals as goal

pub returns : goal.returns
returns c = all_is_tied
