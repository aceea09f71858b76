use Rattle.std.proofs.Common.{◌≡◌, ◌++◌, map}
use Rattle.std.specs.List.{flat_map}
use Rattle.path_select.specs.NodeModel.Reaching.{below, into}
use Rattle.vpn_holdings.specs.TouchedKeys.{always, path_key}
use Rattle.vpn_holdings.proofs.holdings.VpnHoldings.key_side.Given as goal

abbrev pub invariant-loop-distance : goal.invariant-loop-distance
invariant-loop-distance l =
    l.keys.items ≡ l.fn.keys.items ++ map path_key (flat_map (into always l.self l.side) (below l.distance))
