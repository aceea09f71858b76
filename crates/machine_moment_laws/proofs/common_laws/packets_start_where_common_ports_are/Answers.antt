use Rattle.machine_moment_laws.proofs.Starting.{start_where_common}
use Rattle.machine_moment_laws.proofs.common_laws.packets_start_where_common_ports_are.Goals as goal

pub returns : goal.returns
returns c = start_where_common
