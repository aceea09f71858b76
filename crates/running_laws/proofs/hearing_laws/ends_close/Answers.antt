use Rattle.running_laws.proofs.HeardEnds.{end_closed}
use Rattle.running_laws.proofs.hearing_laws.ends_close.Goals as goal

pub returns : goal.returns
returns c = end_closed
