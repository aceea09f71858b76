use Rattle.node_core.proofs.Changes.{one_change}
use Rattle.node_core.proofs.laws.spellings_are_told_apart.Goals as goal

pub returns : goal.returns
returns c = one_change
