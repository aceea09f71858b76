use Rattle.machine_laws.proofs.Delivers.{written_delivers}
use Rattle.machine_laws.proofs.headline_laws.settled_networks_deliver_what_policies_permit.Goals as goal

pub returns : goal.returns
returns c = written_delivers
