use Rattle.config_model.proofs.EventFaults.{other_event, no_event, no_edit}
use Rattle.config_model.proofs.event_laws.other_values_are_no_events.Goals as goal

pub returns-clause-text : goal.returns-clause-text
returns-clause-text c = other_event

pub returns-clause-event : goal.returns-clause-event
returns-clause-event c = no_event

pub returns-clause-edit : goal.returns-clause-edit
returns-clause-edit c = no_edit
