-- The routes of a control node's own.
use Rattle.std.specs.Prelude.{[], ◌∷◌}
use Rattle.path_select.specs.NodeModel.Paths.{Path}
use Rattle.vpn_holdings.specs.declared.routes.Route.{Route}

-- a route as a path, with its one target
abbrev pub path_of : Route → Path
path_of r = record {
  prefix = r.prefix;
  rd = r.path.rd;
  next_hop = r.path.next_hop;
  label = r.path.label;
  targets = r.target ∷ [];
  session = r.path.session;
}
