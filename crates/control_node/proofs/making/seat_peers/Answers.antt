use Rattle.std.proofs.Common.{◌∙◌}
use Rattle.control_node.proofs.Made.{peers_seated}
use Rattle.control_node.proofs.making.seat_peers.Goals as goal

pub returns : goal.returns
returns c =
    c.in_ok-set_peer_route.ensures.ok ∙ peers_seated c.args.tables.now c.args.last _ c.requires
