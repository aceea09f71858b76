use Rattle.machine_model.proofs.IdleWhere.{idle_exactly, refused_exactly}
use Rattle.machine_model.proofs.event_laws.idle_and_refused_are_where_they_are_said.Goals as goal

pub returns-clause-idle : goal.returns-clause-idle
returns-clause-idle c = idle_exactly

pub returns-clause-refused : goal.returns-clause-refused
returns-clause-refused c = refused_exactly
