use Rattle.machine_model.proofs.Deeds.{lost_session, lost_lost, lost_others}
use Rattle.machine_model.proofs.event_laws.losses_leave_notices.Goals as goal

pub returns-clause-lost : goal.returns-clause-lost
returns-clause-lost c = lost_session

pub returns-clause-notices : goal.returns-clause-notices
returns-clause-notices c = lost_lost

pub returns-clause-others : goal.returns-clause-others
returns-clause-others c = lost_others
