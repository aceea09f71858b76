use Rattle.machine_moment_laws.proofs.KeptPlaced.{uninterrupted}
use Rattle.machine_moment_laws.proofs.kept_laws.traces_of_kept_packets_are_answered_as_delivered.Goals as goal

pub returns : goal.returns
returns c = uninterrupted
