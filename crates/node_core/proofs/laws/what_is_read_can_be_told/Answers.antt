use Rattle.node_core.proofs.Changes.{read_fits}
use Rattle.node_core.proofs.laws.what_is_read_can_be_told.Goals as goal

pub returns : goal.returns
returns c = read_fits
