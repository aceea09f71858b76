use Rattle.std.proofs.Common.{◌≡◌, ◌++◌}
use Rattle.std.specs.List.{filter}
use Rattle.path_select.specs.NodeModel.Wants.{is_in_slice, slice}
use Rattle.vpn_holdings.proofs.holdings.VpnHoldings.slice.Given as goal

abbrev pub invariant-loop-key : goal.invariant-loop-key
invariant-loop-key l =
    l.objects.items ++ filter (λ e. is_in_slice l.self.feed l.address e.0 e.1) l.key-iterator ≡ slice l.self.feed l.address
