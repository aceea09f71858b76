use Rattle.machine_model.proofs.Telling.{edit_tells}
use Rattle.machine_model.proofs.event_laws.control_nodes_tell_where_a_session_goes.Goals as goal

pub returns : goal.returns
returns c = edit_tells
