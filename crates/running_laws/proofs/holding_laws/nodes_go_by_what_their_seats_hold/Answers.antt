-- Nodes go by what their seats hold.
use Rattle.running_laws.proofs.Written.{goes_by}
use Rattle.running_laws.proofs.holding_laws.nodes_go_by_what_their_seats_hold.Goals as goal

pub returns : goal.returns
returns c = goes_by
