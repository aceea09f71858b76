use Rattle.config_node.proofs.Law.{low_fits}
use Rattle.config_node.proofs.record_laws.low_objects_can_be_told.Goals as goal

pub returns : goal.returns
returns c = low_fits
