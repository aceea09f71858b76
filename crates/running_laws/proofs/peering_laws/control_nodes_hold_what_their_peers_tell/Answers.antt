use Rattle.running_laws.proofs.HeardAtRest.{all_hear}
use Rattle.running_laws.proofs.peering_laws.control_nodes_hold_what_their_peers_tell.Goals as goal

pub returns : goal.returns
returns c = all_hear
