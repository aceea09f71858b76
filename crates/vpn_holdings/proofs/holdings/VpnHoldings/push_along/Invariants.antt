use Rattle.std.proofs.Common.{◌≡◌, ◌++◌}
use Rattle.std.specs.List.{AllByRecursion, flat_map}
use Rattle.path_select.specs.NodeModel.Uses.{uses}
use Rattle.vpn_holdings.specs.Kinds.{IsHeld}
use Rattle.vpn_holdings.specs.Touched.{rows_if_touched}
use Rattle.vpn_holdings.proofs.Along.{along}
use Rattle.vpn_holdings.proofs.holdings.VpnHoldings.push_along.Given as goal

abbrev pub invariant-loop-key : goal.invariant-loop-key
invariant-loop-key l = record {
  so_far : l.rows.items ++ along (rows_if_touched l.self l.targets) l.key-iterator ≡ l.fn.rows.items ++ flat_map (rows_if_touched l.self l.targets) (uses l.self.feed);
  held : AllByRecursion (IsHeld l.self.feed) l.key-iterator;
}
