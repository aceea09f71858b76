use Rattle.running_laws.proofs.HeardEnds.{message_of, phase_of_cell}
use Rattle.running_laws.proofs.hearing_laws.messages_come_on_their_sessions.Goals as goal

pub returns-clause-message : goal.returns-clause-message
returns-clause-message c = message_of

pub returns-clause-phase : goal.returns-clause-phase
returns-clause-phase c = phase_of_cell
