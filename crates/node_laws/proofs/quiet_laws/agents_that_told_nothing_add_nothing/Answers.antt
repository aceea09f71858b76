use Rattle.node_laws.proofs.Quiet.{quiet_by_agent, quiet_by_peers, quiet_rows}
use Rattle.node_laws.proofs.quiet_laws.agents_that_told_nothing_add_nothing.Goals as goal

pub returns-clause-peers : goal.returns-clause-peers
returns-clause-peers c = quiet_by_peers

pub returns-clause-agents : goal.returns-clause-agents
returns-clause-agents c = quiet_by_agent

pub returns-clause-rows : goal.returns-clause-rows
returns-clause-rows c = quiet_rows
