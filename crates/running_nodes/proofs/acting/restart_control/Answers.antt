use Rattle.running_nodes.proofs.Stepping.{fresh_vacated}
use Rattle.running_nodes.proofs.acting.restart_control.Goals as goal

pub returns-clause-vacated : goal.returns-clause-vacated
returns-clause-vacated c = fresh_vacated c.restart.new.self c.args.node.now.plan c.restart.ensures
