use Rattle.std.proofs.Common.{◌≡◌, ◌++◌}
use Rattle.std.specs.List.{filter, filter_map}
use Rattle.vpn_holdings.specs.Indexed.{is_route_to, route_path}
use Rattle.vpn_holdings.proofs.received.push_routes.Given as goal

abbrev pub invariant-loop-at : goal.invariant-loop-at
invariant-loop-at l =
    l.paths.items ++ filter_map (route_path l.holdings l.imports) l.at-iterator
    ≡ l.fn.paths.items ++ filter_map (route_path l.holdings l.imports) (filter (λ e. is_route_to l.prefix e.0) l.routes.entries)
