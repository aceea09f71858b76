use Rattle.machine_moment_laws.proofs.Permitted.{permitted_exactly}
use Rattle.machine_moment_laws.proofs.permission_laws.packets_visit_only_what_was_permitted.Goals as goal

pub returns : goal.returns
returns c = permitted_exactly
