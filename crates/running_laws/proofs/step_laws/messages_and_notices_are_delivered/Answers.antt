use Rattle.running_laws.proofs.Delivered.{messages_are_delivered, nothing_is_delivered, notices_are_delivered}
use Rattle.running_laws.proofs.Given.{given}
use Rattle.running_laws.proofs.step_laws.messages_and_notices_are_delivered.Goals as goal

pub returns-clause-messages : goal.returns-clause-messages
returns-clause-messages c = messages_are_delivered given

pub returns-clause-notices : goal.returns-clause-notices
returns-clause-notices c = notices_are_delivered given

pub returns-clause-nothing : goal.returns-clause-nothing
returns-clause-nothing c = nothing_is_delivered given
