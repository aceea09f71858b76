use Rattle.running_laws.proofs.HeardEnds.{octets_heard}
use Rattle.running_laws.proofs.hearing_laws.octets_are_heard.Goals as goal

pub returns : goal.returns
returns c = octets_heard
