use Rattle.overlay.proofs.Telling.{each_end_has_its_line}
use Rattle.overlay.proofs.laws.each_end_has_its_line.Goals as goal

pub returns : goal.returns
returns c = each_end_has_its_line
