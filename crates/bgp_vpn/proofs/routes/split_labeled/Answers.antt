use Rattle.bgp_vpn.specs.Spelled.{fields_of}
use Rattle.bgp_vpn.proofs.SaidLemmas.{first_labeled}
use Rattle.bgp_vpn.proofs.routes.split_labeled.Goals as goal

pub returns-clause-found : goal.returns-clause-found
returns-clause-found c =
    first_labeled _ _ (fields_of c.in_ok-route.route) _ c.in_ok-route.ensures.found c.labeled_of-labeled.ensures
