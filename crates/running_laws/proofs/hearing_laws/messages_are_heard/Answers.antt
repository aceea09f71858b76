use Rattle.running_laws.proofs.HeardEnds.{message_heard}
use Rattle.running_laws.proofs.hearing_laws.messages_are_heard.Goals as goal

pub returns : goal.returns
returns c = message_heard
