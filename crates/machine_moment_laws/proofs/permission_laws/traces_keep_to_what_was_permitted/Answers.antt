use Rattle.machine_moment_laws.proofs.PermissionPlaced.{permitted}
use Rattle.machine_moment_laws.proofs.permission_laws.traces_keep_to_what_was_permitted.Goals as goal

pub returns : goal.returns
returns c = permitted
