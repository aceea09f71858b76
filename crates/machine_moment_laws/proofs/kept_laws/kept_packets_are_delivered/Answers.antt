use Rattle.machine_moment_laws.proofs.KeptDelivered.{kept_are_delivered}
use Rattle.machine_moment_laws.proofs.kept_laws.kept_packets_are_delivered.Goals as goal

pub returns : goal.returns
returns c = kept_are_delivered
