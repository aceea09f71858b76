use Rattle.std.proofs.Common.{◌≡◌, ◌++◌, map, drop}
use Rattle.std.specs.List.{flat_map}
use Rattle.vpn_holdings.specs.Routes.{path_of}
use Rattle.vpn_holdings.proofs.Leads.{led_to}
use Rattle.vpn_holdings.proofs.holdings.VpnHoldings.lead_towards.Given as goal

abbrev pub invariant-loop-index : goal.invariant-loop-index
invariant-loop-index l =
    map path_of l.routes.items ++ flat_map (led_to l.self l.side l.distance) (drop l.index l.subnet-items)
    ≡ map path_of l.fn.routes.items ++ flat_map (led_to l.self l.side l.distance) l.subnet-items
