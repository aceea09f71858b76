use Rattle.machine_model.proofs.Idle.{idle_same, refused_same}
use Rattle.machine_model.proofs.event_laws.what_is_not_done_changes_nothing.Goals as goal

pub returns-clause-idle : goal.returns-clause-idle
returns-clause-idle c = idle_same

pub returns-clause-refused : goal.returns-clause-refused
returns-clause-refused c = refused_same
