use Rattle.machine_moment_laws.proofs.Back.{delivered_again}
use Rattle.machine_moment_laws.proofs.recovery_laws.packets_are_delivered_again.Goals as goal

pub returns : goal.returns
returns c = delivered_again
