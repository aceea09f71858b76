-- Seats show what nodes show.
use Rattle.running_laws.proofs.Written.{no_node_above, seats_are_nodes, shows_at}
use Rattle.running_laws.proofs.holding_laws.seats_show_what_nodes_show.Goals as goal

pub returns-clause-nodes : goal.returns-clause-nodes
returns-clause-nodes c = shows_at

pub returns-clause-seats : goal.returns-clause-seats
returns-clause-seats c = seats_are_nodes

pub returns-clause-others : goal.returns-clause-others
returns-clause-others c = no_node_above
