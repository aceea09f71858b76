use Rattle.machine_moment_laws.proofs.Revoked.{present_slices_are_held}
use Rattle.machine_moment_laws.proofs.revocation_laws.slices_are_held_after_two_rounds.Goals as goal

pub returns : goal.returns
returns c = present_slices_are_held
