use Rattle.config_model.proofs.EventFaults.{event_not_one, edit_not_one, put_not_one, delete_not_one}
use Rattle.config_model.proofs.event_laws.objects_have_one_member.Goals as goal

pub returns-clause-event : goal.returns-clause-event
returns-clause-event c = event_not_one

pub returns-clause-edit : goal.returns-clause-edit
returns-clause-edit c = edit_not_one

pub returns-clause-put : goal.returns-clause-put
returns-clause-put c = put_not_one

pub returns-clause-delete : goal.returns-clause-delete
returns-clause-delete c = delete_not_one
