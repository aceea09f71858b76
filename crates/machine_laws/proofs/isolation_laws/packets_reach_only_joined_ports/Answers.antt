use Rattle.machine_laws.proofs.Walk.{isolates}
use Rattle.machine_laws.proofs.isolation_laws.packets_reach_only_joined_ports.Goals as goal

pub returns : goal.returns
returns c = isolates
