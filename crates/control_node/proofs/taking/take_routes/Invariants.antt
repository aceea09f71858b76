use Rattle.std.proofs.Common.{◌≡◌, ◌<◌, ◌^◌, map}
use Rattle.std.specs.List.{AllByRecursion}
use Rattle.ov_sync.specs.Embed.{moved_delta}
use Rattle.ov_sync.specs.Keyed.{after}
use Rattle.bgp_session.specs.BgpVpn.Written.{IfPut}
use Rattle.node_core.specs.NodeModel.Keys.{Vpn}
use Rattle.node_core.specs.NodeModel.Values.{Route}
use Rattle.control_node.specs.Stays.{StaysHeld}
use Rattle.control_node.specs.Taking.{peer_by}
use Rattle.control_node.specs.Tracking.{AreMarked}
use Rattle.control_node.proofs.taking.take_routes.Given as goal

abbrev pub invariant-loop-change : goal.invariant-loop-change
invariant-loop-change l = record {
  stays : StaysHeld l.fn.tables l.tables;
  marked : AreMarked l.fn.dirty l.dirty l.fn.tables l.tables;
  rest : peer_by (λ m. after m (map (moved_delta Vpn Route) l.change-iterator.rest.items)) l.tables l.session
      ≡ peer_by (λ m. after m (map (moved_delta Vpn Route) l.fn.changes.items)) l.fn.tables l.session;
  labels : AllByRecursion (λ d. IfPut d (λ route. route.label.0 < 2 ^ 20)) l.change-iterator.rest.items;
}
