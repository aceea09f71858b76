use Rattle.std.proofs.Common.{◌≡◌, ◌++◌, map}
use Rattle.vpn_holdings.proofs.prefixes.push_routes.Given as goal

abbrev pub invariant-loop-key : goal.invariant-loop-key
invariant-loop-key l =
    l.prefixes.items ++ map (λ e. e.0.prefix) l.key-iterator ≡ l.fn.prefixes.items ++ map (λ e. e.0.prefix) l.routes
