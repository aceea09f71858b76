use Rattle.node_model.proofs.Local.{wants_targeted}
use Rattle.node_model.proofs.local_laws.wanted_routes_are_targeted.Goals as goal

pub returns : goal.returns
returns c = wants_targeted
