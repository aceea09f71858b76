use Rattle.std.proofs.Common.{◌≡◌, ◌++◌}
use Rattle.std.specs.List.{filter_map}
use Rattle.path_select.specs.NodeModel.Maps.{objects}
use Rattle.path_select.specs.NodeModel.Tables.{network_of}
use Rattle.vpn_holdings.proofs.holdings.VpnHoldings.networks.Given as goal

abbrev pub invariant-loop-key : goal.invariant-loop-key
invariant-loop-key l =
    l.networks.items ++ filter_map (λ e. network_of e.0) l.key-iterator ≡ filter_map (λ e. network_of e.0) (objects l.self.feed)
