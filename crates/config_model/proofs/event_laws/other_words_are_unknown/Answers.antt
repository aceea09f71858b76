use Rattle.config_model.proofs.EventFaults.{event_unknown, edit_unknown, put_unknown, delete_unknown}
use Rattle.config_model.proofs.event_laws.other_words_are_unknown.Goals as goal

pub returns-clause-event : goal.returns-clause-event
returns-clause-event c = event_unknown

pub returns-clause-edit : goal.returns-clause-edit
returns-clause-edit c = edit_unknown

pub returns-clause-put : goal.returns-clause-put
returns-clause-put c = put_unknown

pub returns-clause-delete : goal.returns-clause-delete
returns-clause-delete c = delete_unknown
