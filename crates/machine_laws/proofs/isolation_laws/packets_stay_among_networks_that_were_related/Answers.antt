use Rattle.machine_laws.proofs.Come.{joined_so_far}
use Rattle.machine_laws.proofs.isolation_laws.packets_stay_among_networks_that_were_related.Goals as goal

pub returns : goal.returns
returns c = joined_so_far
