use Rattle.machine_moment_laws.proofs.Permitted.{permitted_somehow}
use Rattle.machine_moment_laws.proofs.permission_laws.packets_come_only_where_they_were_permitted.Goals as goal

pub returns : goal.returns
returns c = permitted_somehow
