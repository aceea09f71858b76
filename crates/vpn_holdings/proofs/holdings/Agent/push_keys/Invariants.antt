use Rattle.std.proofs.Common.{◌≡◌, ◌++◌, map}
use Rattle.vpn_holdings.proofs.holdings.Agent.push_keys.Given as goal

abbrev pub invariant-loop-key : goal.invariant-loop-key
invariant-loop-key l =
    l.keys.items ++ map (λ e. e.0) l.key-iterator ≡ l.fn.keys.items ++ map (λ e. e.0) l.self.told
