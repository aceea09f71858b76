use Rattle.node_model.proofs.Spelled.{import_is}
use Rattle.node_model.proofs.control_laws.places_import_their_ends.Goals as goal

pub returns : goal.returns
returns c = import_is
