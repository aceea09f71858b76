use Rattle.machine_moment_laws.proofs.AgainDelivered.{kept_are_delivered_again}
use Rattle.machine_moment_laws.proofs.again_laws.kept_packets_are_delivered_again.Goals as goal

pub returns : goal.returns
returns c = kept_are_delivered_again
