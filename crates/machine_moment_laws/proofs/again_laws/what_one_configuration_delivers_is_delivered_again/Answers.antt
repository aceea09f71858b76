use Rattle.machine_moment_laws.proofs.One.{one_delivers_again}
use Rattle.machine_moment_laws.proofs.again_laws.what_one_configuration_delivers_is_delivered_again.Goals as goal

pub returns : goal.returns
returns c = one_delivers_again
