use Rattle.node_model.proofs.Wanted.{slice_is, slices_apart}
use Rattle.node_model.proofs.control_laws.slices_are_of_their_addresses.Goals as goal

pub returns-clause-exactly : goal.returns-clause-exactly
returns-clause-exactly c = slice_is

pub returns-clause-apart : goal.returns-clause-apart
returns-clause-apart c = slices_apart
