use Rattle.std.proofs.Common.{◌≡◌, ◌++◌}
use Rattle.std.specs.List.{filter_map}
use Rattle.path_select.specs.NodeModel.Keys.{of_up}
use Rattle.path_select.specs.NodeModel.Wants.{subscribed}
use Rattle.vpn_holdings.proofs.holdings.Agent.subscriptions.Given as goal

abbrev pub invariant-loop-key : goal.invariant-loop-key
invariant-loop-key l =
    l.instances.items ++ filter_map (λ e. subscribed (of_up e.0)) l.key-iterator ≡ filter_map (λ e. subscribed (of_up e.0)) l.self.told
