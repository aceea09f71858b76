use Rattle.machine_model.proofs.Connecting.{connected_opens}
use Rattle.machine_model.proofs.event_laws.connections_open_both_ends.Goals as goal

pub returns : goal.returns
returns c = connected_opens
