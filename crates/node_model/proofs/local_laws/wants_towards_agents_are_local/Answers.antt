use Rattle.node_model.proofs.Local.{local_slices, local_to_agents}
use Rattle.node_model.proofs.local_laws.wants_towards_agents_are_local.Goals as goal

pub returns-clause-slices : goal.returns-clause-slices
returns-clause-slices c = local_slices

pub returns-clause-all : goal.returns-clause-all
returns-clause-all c = local_to_agents
