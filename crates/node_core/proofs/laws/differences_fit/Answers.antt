use Rattle.node_core.proofs.Maps.{difference_fits}
use Rattle.node_core.proofs.laws.differences_fit.Goals as goal

pub returns : goal.returns
returns c = difference_fits
