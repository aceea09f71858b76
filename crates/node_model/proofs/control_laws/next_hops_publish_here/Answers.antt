use Rattle.node_model.proofs.Wanted.{next_hop_here}
use Rattle.node_model.proofs.control_laws.next_hops_publish_here.Goals as goal

pub returns : goal.returns
returns c = next_hop_here
