use Rattle.machine_moment_laws.proofs.Permitted.{led_on}
use Rattle.machine_moment_laws.proofs.permission_laws.packets_never_run_out_of_lookups.Goals as goal

pub returns : goal.returns
returns c = led_on
