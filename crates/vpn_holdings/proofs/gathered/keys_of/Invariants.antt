use Rattle.std.proofs.Common.{◌≡◌, ◌++◌, map}
use Rattle.vpn_holdings.proofs.gathered.keys_of.Given as goal

abbrev pub invariant-loop-key : goal.invariant-loop-key
invariant-loop-key g l =
    l.keys.items ++ map (λ e. e.0) l.key-iterator ≡ map (λ e. e.0) l.once.entries
