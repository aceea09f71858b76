use Rattle.machine_model.proofs.Moving.{begins_anew}
use Rattle.machine_model.proofs.event_laws.nodes_that_move_begin_anew.Goals as goal

pub returns : goal.returns
returns c = begins_anew
