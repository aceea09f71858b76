use Rattle.machine_moment_laws.proofs.RevocationPlaced.{revoked}
use Rattle.machine_moment_laws.proofs.revocation_laws.refused_packets_are_answered_as_dropped.Goals as goal

pub returns : goal.returns
returns c = revoked
