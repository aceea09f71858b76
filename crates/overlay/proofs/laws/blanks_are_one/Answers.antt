use Rattle.overlay.proofs.Requests.{blanks_are_one}
use Rattle.overlay.proofs.laws.blanks_are_one.Goals as goal

pub returns : goal.returns
returns c = blanks_are_one
