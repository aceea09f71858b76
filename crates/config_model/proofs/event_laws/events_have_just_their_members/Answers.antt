use Rattle.config_model.proofs.EventsJust.{edit_has_just, event_has_just, run_has_just, run_missed}
use Rattle.config_model.proofs.event_laws.events_have_just_their_members.Goals as goal

pub returns-clause-edit : goal.returns-clause-edit
returns-clause-edit c = edit_has_just

pub returns-clause-event : goal.returns-clause-event
returns-clause-event c = event_has_just

pub returns-clause-run : goal.returns-clause-run
returns-clause-run c = run_has_just

pub returns-clause-first : goal.returns-clause-first
returns-clause-first c = run_missed
