use Rattle.machine_moment_laws.proofs.Revoked.{refused_packets_are_soon_dropped}
use Rattle.machine_moment_laws.proofs.revocation_laws.refused_packets_are_dropped_once_two_rounds_passed.Goals as goal

pub returns : goal.returns
returns c = refused_packets_are_soon_dropped
