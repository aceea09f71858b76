use Rattle.running_nodes.proofs.Stepping.{agent_emptied}
use Rattle.running_nodes.proofs.acting.restart_agent.Goals as goal

pub returns-clause-emptied : goal.returns-clause-emptied
returns-clause-emptied c = agent_emptied c.args.node.now c.restart.new.self c.restart.ensures c.requires.long c.requires.kept
