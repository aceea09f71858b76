use Rattle.node_model.proofs.Needed.{needed_is}
use Rattle.node_model.proofs.agent_laws.instances_that_are_needed.Goals as goal

pub returns : goal.returns
returns c = needed_is
