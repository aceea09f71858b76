use Rattle.machine_moment_laws.proofs.Routes.{what_is_common_stays}
use Rattle.machine_moment_laws.proofs.common_laws.what_is_common_stays.Goals as goal

pub returns : goal.returns
returns c = what_is_common_stays
