use Rattle.std.proofs.Common.{◌≡◌}
use Rattle.std.specs.List.{filter}
use Rattle.vpn_holdings.specs.At.{best_over}
use Rattle.vpn_holdings.specs.Indexed.{is_route_to, route_path}
use Rattle.vpn_holdings.proofs.selecting.best_of_routes.Given as goal

abbrev pub invariant-loop-at : goal.invariant-loop-at
invariant-loop-at l =
    best_over (route_path l.holdings l.imports) l.best l.at-iterator
    ≡ best_over (route_path l.holdings l.imports) l.fn.first (filter (λ e. is_route_to l.prefix e.0) l.routes.entries)
