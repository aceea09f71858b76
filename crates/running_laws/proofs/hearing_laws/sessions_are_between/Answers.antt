use Rattle.running_laws.proofs.HeardEnds.{session_between}
use Rattle.running_laws.proofs.hearing_laws.sessions_are_between.Goals as goal

pub returns : goal.returns
returns c = session_between
