use Rattle.machine_moment_laws.proofs.Admitting.{verdicts_are_of_some}
use Rattle.machine_moment_laws.proofs.common_laws.verdicts_are_of_some_configuration.Goals as goal

pub returns : goal.returns
returns c = verdicts_are_of_some
