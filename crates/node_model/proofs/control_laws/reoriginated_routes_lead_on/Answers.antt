use Rattle.node_model.proofs.Routes.{reoriginated_from, reoriginated_in}
use Rattle.node_model.proofs.control_laws.reoriginated_routes_lead_on.Goals as goal

pub returns : goal.returns
returns c = λ h p. (reoriginated_from h p, reoriginated_in h p)
