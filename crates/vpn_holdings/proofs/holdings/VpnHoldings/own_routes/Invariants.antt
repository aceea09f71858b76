use Rattle.std.proofs.Common.{◌≡◌, ◌++◌, map, drop}
use Rattle.std.specs.List.{flat_map}
use Rattle.vpn_holdings.specs.Routes.{path_of}
use Rattle.vpn_holdings.specs.Views.{agent_of}
use Rattle.vpn_holdings.proofs.Walks.{own_of}
use Rattle.vpn_holdings.proofs.holdings.VpnHoldings.own_routes.Given as goal

abbrev pub invariant-loop-agent : goal.invariant-loop-agent
invariant-loop-agent l =
    map path_of l.routes.items ++ flat_map (own_of l.self) (map agent_of (drop l.agent-index l.agent-items))
    ≡ flat_map (own_of l.self) (map agent_of l.agent-items)
