use Rattle.running_laws.proofs.HeardEnds.{end_opened}
use Rattle.running_laws.proofs.hearing_laws.ends_open.Goals as goal

pub returns : goal.returns
returns c = end_opened
