use Rattle.std.proofs.Common.{◌≡◌, ◌++◌, map, drop}
use Rattle.path_select.specs.NodeModel.Reaching.{is_up}
use Rattle.vpn_holdings.proofs.holdings.VpnHoldings.up_at_end.Given as goal

abbrev pub invariant-loop-subnet : goal.invariant-loop-subnet
invariant-loop-subnet l =
    l.up.items ++ map (λ s. is_up l.self l.side s 0) (drop l.subnet-index l.subnet-items)
    ≡ map (λ s. is_up l.self l.side s 0) l.subnet-items
