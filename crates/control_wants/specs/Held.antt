-- What is asked of what a control node holds, so that all that it wants can be told.
use Rattle.std.specs.Prelude.{◌<◌, ◌^◌}
use Rattle.std.specs.List.{AllByRecursion}
use Rattle.ov_sync.specs.Keyed.{Values}
use Rattle.node_core.specs.Told.{AllFit}
use Rattle.node_routes.specs.NodeModel.Keys.{Key, Vpn}
use Rattle.node_routes.specs.NodeModel.Values.{Value, Route}
use Rattle.node_routes.specs.NodeModel.Paths.{Holdings, Told}
pub use Rattle.vpn_tables.specs.Listing.{told_in}

-- a route whose label has 20 bits
abbrev pub RouteFits : Key → Value → Type 0
RouteFits (Vpn k) (Route r) = r.label.0 < 2 ^ 20
RouteFits _ _ = ⊥

pub record HoldingsFit (h : Holdings) : Type 0 where
  pub feed : AllFit h.feed
  pub peers : AllByRecursion (Values RouteFits) h.peers
  pub agents : AllByRecursion (λ (a : Told). AllFit a.map) h.agents
