use Rattle.node_laws.proofs.Quiet.{silent_by_agent, silent_by_peers}
use Rattle.node_laws.proofs.quiet_laws.agents_that_publish_nothing_add_nothing.Goals as goal

pub returns-clause-peers : goal.returns-clause-peers
returns-clause-peers c = silent_by_peers

pub returns-clause-agents : goal.returns-clause-agents
returns-clause-agents c = silent_by_agent
