use Rattle.node_laws.proofs.Receiving.{peer_route_from, peer_route_in}
use Rattle.node_laws.proofs.held_laws.peer_paths_are_what_peers_told.Goals as goal

pub returns : goal.returns
returns c = λ h p. (peer_route_from h p, peer_route_in h p)
