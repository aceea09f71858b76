use Rattle.explanations.proofs.Lines.{refusals_are_told}
use Rattle.explanations.proofs.laws.refusals_are_told.Goals as goal

pub returns : goal.returns
returns c = refusals_are_told
