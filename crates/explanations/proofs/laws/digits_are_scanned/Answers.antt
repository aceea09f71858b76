use Rattle.explanations.proofs.Scans.{digits_are_scanned}
use Rattle.explanations.proofs.laws.digits_are_scanned.Goals as goal

pub returns : goal.returns
returns c = digits_are_scanned
