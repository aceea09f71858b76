use Rattle.node_model.proofs.Local.{local_of_agents}
use Rattle.node_model.proofs.local_laws.wants_of_agents_are_local.Goals as goal

pub returns : goal.returns
returns c = local_of_agents
