use Rattle.machine_model.proofs.Deeds.{restarted_own, shut_closed, restarted_others}
use Rattle.machine_model.proofs.event_laws.restarts_empty_a_node.Goals as goal

pub returns-clause-own : goal.returns-clause-own
returns-clause-own c = restarted_own

pub returns-clause-closed : goal.returns-clause-closed
returns-clause-closed c = shut_closed

pub returns-clause-others : goal.returns-clause-others
returns-clause-others c = restarted_others
