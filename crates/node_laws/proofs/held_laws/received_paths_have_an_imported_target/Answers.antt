use Rattle.node_laws.proofs.Receiving.{received_is}
use Rattle.node_laws.proofs.held_laws.received_paths_have_an_imported_target.Goals as goal

pub returns : goal.returns
returns c = received_is
