use Rattle.chain_reorigin.proofs.RightSide.{right_first}
use Rattle.chain_reorigin.proofs.laws.the_right_side_stands_first.Goals as goal

pub returns : goal.returns
returns c = λ h u m. right_first h u m
