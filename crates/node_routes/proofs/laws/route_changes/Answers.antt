use Rattle.node_routes.proofs.Writable.{is_route_change}
use Rattle.node_routes.proofs.laws.route_changes.Goals as goal

pub returns : goal.returns
returns c = is_route_change
