use Rattle.node_model.proofs.Routes.{own_route_from, own_route_in}
use Rattle.node_model.proofs.control_laws.own_routes_are_publications.Goals as goal

pub returns : goal.returns
returns c = λ h p. (own_route_from h p, own_route_in h p)
