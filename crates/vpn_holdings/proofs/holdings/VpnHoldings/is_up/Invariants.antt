use Rattle.std.proofs.Common.{◌≡◌}
use Rattle.path_select.specs.NodeModel.Reaching.{is_up}
use Rattle.vpn_holdings.proofs.holdings.VpnHoldings.is_up.Given as goal

abbrev pub invariant-loop-nearer : goal.invariant-loop-nearer
invariant-loop-nearer l = l.up ≡ is_up l.self l.side l.subnet l.nearer
