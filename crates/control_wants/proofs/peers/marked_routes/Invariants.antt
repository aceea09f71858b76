use Rattle.std.proofs.Common.{◌≡◌, ◌++◌, map}
use Rattle.std.specs.FinMap.{get}
use Rattle.std.specs.List.{AllByRecursion}
use Rattle.std.specs.Option.{option_map}
use Rattle.vpn_tables.specs.NodeModel.Keys.{Vpn}
use Rattle.vpn_tables.specs.NodeModel.Values.{Route}
use Rattle.vpn_tables.specs.NodeModel.Wants.{wanted_by_peers}
use Rattle.control_wants.proofs.peers.marked_routes.Given as goal

abbrev pub invariant-loop-key : goal.invariant-loop-key
invariant-loop-key l = record {
  keys : map (λ e. e.0) l.wanted.items ++ map (λ e. e.0) l.key-iterator ≡ l.dirty.routes;
  each : AllByRecursion (λ e. option_map Route e.1 ≡ get (wanted_by_peers l.tables) (Vpn e.0)) l.wanted.items;
}
