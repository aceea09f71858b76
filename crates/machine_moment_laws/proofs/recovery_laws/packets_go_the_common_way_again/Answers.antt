use Rattle.machine_moment_laws.proofs.Back.{go_the_way_again}
use Rattle.machine_moment_laws.proofs.recovery_laws.packets_go_the_common_way_again.Goals as goal

pub returns : goal.returns
returns c = go_the_way_again
