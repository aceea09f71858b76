use Rattle.machine_moment_laws.proofs.SlicesTold.{slices_are_told}
use Rattle.machine_moment_laws.proofs.revocation_laws.slices_are_told.Goals as goal

pub returns : goal.returns
returns c = slices_are_told
