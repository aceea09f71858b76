use Rattle.machine_model.proofs.Deeds.{broken_session, broken_others, told_meets}
use Rattle.machine_model.proofs.event_laws.breaks_fail_sends.Goals as goal

pub returns-clause-added : goal.returns-clause-added
returns-clause-added c = broken_session

pub returns-clause-others : goal.returns-clause-others
returns-clause-others c = broken_others

pub returns-clause-fails : goal.returns-clause-fails
returns-clause-fails c = told_meets
