use Rattle.machine_moment_laws.proofs.Revoked.{refused_packets_are_dropped}
use Rattle.machine_moment_laws.proofs.revocation_laws.refused_packets_are_dropped_after_two_rounds.Goals as goal

pub returns : goal.returns
returns c = refused_packets_are_dropped
