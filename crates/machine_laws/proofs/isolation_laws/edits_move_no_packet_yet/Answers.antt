use Rattle.machine_laws.proofs.Yet.{moves_nothing_yet}
use Rattle.machine_laws.proofs.isolation_laws.edits_move_no_packet_yet.Goals as goal

pub returns : goal.returns
returns c = moves_nothing_yet
