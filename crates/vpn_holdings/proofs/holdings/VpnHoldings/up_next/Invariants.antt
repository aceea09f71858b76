use Rattle.std.proofs.Common.{◌≡◌, ◌++◌, ◌+◌, map, drop}
use Rattle.path_select.specs.NodeModel.Reaching.{is_up}
use Rattle.vpn_holdings.proofs.holdings.VpnHoldings.up_next.Given as goal

abbrev pub invariant-loop-index : goal.invariant-loop-index
invariant-loop-index l =
    l.next.items ++ map (λ s. is_up l.self l.side s (l.distance + 1)) (drop l.index l.subnet-items)
    ≡ map (λ s. is_up l.self l.side s (l.distance + 1)) l.subnet-items
