use Rattle.std.proofs.Common.{map}
use Rattle.ov_sync.specs.Embed.{moved_delta}
use Rattle.vpn_tables.specs.NodeModel.Keys.{Vpn}
use Rattle.vpn_tables.specs.NodeModel.Values.{Route}
use Rattle.vpn_tables.specs.Views.{peer_of}
use Rattle.control_wants.proofs.OneByOne.{SoFar}
use Rattle.control_wants.proofs.route_sends.tell_routes.Given as goal

abbrev pub invariant-loop-key : goal.invariant-loop-key
invariant-loop-key l =
    SoFar Vpn Route l.wanted (peer_of l.fn.sent) l.key-index (map (moved_delta Vpn Route) l.deltas.items) (peer_of l.sent)
