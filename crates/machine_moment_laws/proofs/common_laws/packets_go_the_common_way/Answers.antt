use Rattle.machine_moment_laws.proofs.Arriving.{go_the_common_way}
use Rattle.machine_moment_laws.proofs.common_laws.packets_go_the_common_way.Goals as goal

pub returns : goal.returns
returns c = go_the_common_way
