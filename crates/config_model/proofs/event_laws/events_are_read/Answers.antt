use Rattle.config_model.proofs.EventsRead.{edit_is_read, event_is_read, run_is_read}
use Rattle.config_model.proofs.event_laws.events_are_read.Goals as goal

pub returns-clause-edit : goal.returns-clause-edit
returns-clause-edit c = edit_is_read

pub returns-clause-event : goal.returns-clause-event
returns-clause-event c = event_is_read

pub returns-clause-run : goal.returns-clause-run
returns-clause-run c = run_is_read
