use Rattle.machine_laws.proofs.Staying.{nodes_stay_joined}
use Rattle.machine_laws.proofs.closing_laws.nodes_close_no_session_but_by_a_failed_send.Goals as goal

pub returns : goal.returns
returns c = nodes_stay_joined
