use Rattle.node_model.proofs.Heard.{route_is}
use Rattle.node_model.proofs.agent_laws.routes_are_of_needed_instances.Goals as goal

pub returns : goal.returns
returns c = route_is
