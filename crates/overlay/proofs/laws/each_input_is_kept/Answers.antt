use Rattle.overlay.proofs.Telling.{each_input_is_kept}
use Rattle.overlay.proofs.laws.each_input_is_kept.Goals as goal

pub returns : goal.returns
returns c = each_input_is_kept
