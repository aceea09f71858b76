use Rattle.std.proofs.Common.{◌≡◌, ◌++◌, map, drop}
use Rattle.std.specs.List.{flat_map}
use Rattle.vpn_holdings.specs.TouchedKeys.{path_key}
use Rattle.vpn_holdings.proofs.Keyed.{may_lead_to}
use Rattle.vpn_holdings.proofs.holdings.VpnHoldings.key_towards.Given as goal

abbrev pub invariant-loop-subnet : goal.invariant-loop-subnet
invariant-loop-subnet l =
    l.keys.items ++ map path_key (flat_map (may_lead_to l.self l.side l.distance) (drop l.subnet-index l.subnet-items))
    ≡ l.fn.keys.items ++ map path_key (flat_map (may_lead_to l.self l.side l.distance) l.subnet-items)
