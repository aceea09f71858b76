use Rattle.std.proofs.Common.{◌≡◌, ◌++◌, map}
use Rattle.std.specs.List.{filter_map}
use Rattle.vpn_holdings.specs.Routes.{path_of}
use Rattle.vpn_holdings.proofs.Walks.{own_typed}
use Rattle.vpn_holdings.proofs.holdings.VpnHoldings.push_own.Given as goal

abbrev pub invariant-loop-key : goal.invariant-loop-key
invariant-loop-key l =
    map path_of l.routes.items ++ filter_map (own_typed l.self l.agent) l.key-iterator
    ≡ map path_of l.fn.routes.items ++ filter_map (own_typed l.self l.agent) l.agent.told
