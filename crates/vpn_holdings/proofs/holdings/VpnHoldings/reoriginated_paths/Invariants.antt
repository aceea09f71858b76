use Rattle.std.proofs.Common.{◌≡◌, ◌++◌, map}
use Rattle.std.specs.List.{AllByRecursion}
use Rattle.path_select.specs.NodeModel.Reaching.{reoriginated_paths}
use Rattle.vpn_holdings.specs.Kinds.{IsHeld}
use Rattle.vpn_holdings.specs.Routes.{path_of}
use Rattle.vpn_holdings.proofs.Uses.{total}
use Rattle.vpn_holdings.proofs.holdings.VpnHoldings.reoriginated_paths.Given as goal

abbrev pub invariant-loop-key : goal.invariant-loop-key
invariant-loop-key l = record {
  so_far : map path_of l.routes.items ++ total l.self l.key-iterator ≡ reoriginated_paths l.self;
  held : AllByRecursion (IsHeld l.self.feed) l.key-iterator;
}
