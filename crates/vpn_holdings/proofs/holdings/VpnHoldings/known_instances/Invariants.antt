use Rattle.std.proofs.Common.{◌≡◌, ◌++◌}
use Rattle.std.specs.List.{AllByRecursion}
use Rattle.path_select.specs.NodeModel.Tables.{known_instances}
use Rattle.vpn_holdings.specs.Kinds.{IsHeld}
use Rattle.vpn_holdings.proofs.Listed.{places}
use Rattle.vpn_holdings.proofs.holdings.VpnHoldings.known_instances.Given as goal

abbrev pub invariant-loop-key : goal.invariant-loop-key
invariant-loop-key l = record {
  so_far : l.instances.items ++ places l.key-iterator ≡ known_instances l.self.feed;
  held : AllByRecursion (IsHeld l.self.feed) l.key-iterator;
}
