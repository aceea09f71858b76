use Rattle.std.proofs.Common.{◌≡◌, ◌++◌}
use Rattle.std.specs.List.{filter_map}
use Rattle.vpn_holdings.proofs.Gathering.{up_prefix}
use Rattle.vpn_holdings.proofs.holdings.Agent.push_prefixes.Given as goal

abbrev pub invariant-loop-key : goal.invariant-loop-key
invariant-loop-key l =
    l.prefixes.items ++ filter_map (λ e. up_prefix e.0) l.key-iterator ≡ l.fn.prefixes.items ++ filter_map (λ e. up_prefix e.0) l.self.told
