use Rattle.std.proofs.Common.{◌<◌, ◌-◌, arith}
use Rattle.ov_sync.specs.Embed.{moved_delta}
use Rattle.path_select.specs.NodeModel.Keys.{Vpn}
use Rattle.path_select.specs.NodeModel.Values.{Route}
use Rattle.vpn_holdings.proofs.Peers.{fit_changed, fit_same}
use Rattle.vpn_holdings.proofs.holdings.VpnHoldings.set_peer_route.Goals as goal

pub invariant_of-self : goal.invariant_of-self
invariant_of-self c = (
  c.self.invariant.0,
  fit_same c.self.inside.peers.items c.set_route.new.peers.items 65535 c.in_err-set_route.ensures.err c.self.invariant.1,
  c.self.invariant.2,
  c.set_route.ensures.routes,
  c.self.invariant.4,
  c.self.invariant.5,
)

pub invariant_of-self-2 : goal.invariant_of-self-2
invariant_of-self-2 c =
    let lt : c.args.session - 1 < 65535 = omega arith in (
      c.self.invariant.0,
      fit_changed c.self.inside.peers.items c.set_route.new.peers.items (c.args.session - 1) 65535 (moved_delta Vpn Route c.args.delta) c.in_ok-set_route.ensures.ok lt c.self.invariant.1,
      c.self.invariant.2,
      c.set_route.ensures.routes,
      c.self.invariant.4,
      c.self.invariant.5,
    )
