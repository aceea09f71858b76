use Rattle.node_core.proofs.Changes.{fits_told}
use Rattle.node_core.proofs.laws.what_fits_can_be_told.Goals as goal

pub returns : goal.returns
returns c = fits_told
