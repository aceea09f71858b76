use Rattle.machine_moment_laws.proofs.Back.{what_is_common_is_back}
use Rattle.machine_moment_laws.proofs.recovery_laws.what_is_common_is_back.Goals as goal

pub returns : goal.returns
returns c = what_is_common_is_back
