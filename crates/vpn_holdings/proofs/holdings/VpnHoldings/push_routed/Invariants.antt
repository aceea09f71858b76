use Rattle.std.proofs.Common.{◌≡◌, ◌++◌, map, drop}
use Rattle.std.specs.List.{flat_map}
use Rattle.vpn_holdings.specs.Gathered.{prefixes_in}
use Rattle.vpn_holdings.specs.Views.{peer_of}
use Rattle.vpn_holdings.proofs.holdings.VpnHoldings.push_routed.Given as goal

abbrev pub invariant-loop-routes : goal.invariant-loop-routes
invariant-loop-routes l =
    l.prefixes.items ++ flat_map prefixes_in (map peer_of (drop l.routes-index l.routes-items))
    ≡ l.fn.prefixes.items ++ flat_map prefixes_in (map peer_of l.routes-items)
