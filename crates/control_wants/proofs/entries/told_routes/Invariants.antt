use Rattle.std.proofs.Common.{◌≡◌, ◌++◌, map, drop}
use Rattle.chain_reorigin.specs.Told.{told_path}
use Rattle.vpn_tables.specs.Routes.{path_of}
use Rattle.control_wants.proofs.entries.told_routes.Given as goal

abbrev pub invariant-loop-route : goal.invariant-loop-route
invariant-loop-route l =
    l.told.items ++ map told_path (map path_of (drop l.route-index l.routes)) ≡ map told_path (map path_of l.routes)
