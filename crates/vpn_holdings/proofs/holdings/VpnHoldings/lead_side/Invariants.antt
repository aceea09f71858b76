use Rattle.std.proofs.Common.{◌≡◌, ◌++◌, map}
use Rattle.std.specs.List.{flat_map}
use Rattle.path_select.specs.NodeModel.Reaching.{below, into, is_up, subnets}
use Rattle.vpn_holdings.specs.Routes.{path_of}
use Rattle.vpn_holdings.proofs.holdings.VpnHoldings.lead_side.Given as goal

abbrev pub invariant-loop-distance : goal.invariant-loop-distance
invariant-loop-distance l = record {
  so_far : map path_of l.routes.items ≡ map path_of l.fn.routes.items ++ flat_map (into (is_up l.self) l.self l.side) (below l.distance);
  up : l.up.items ≡ map (λ s. is_up l.self l.side s l.distance) (subnets l.side);
}
