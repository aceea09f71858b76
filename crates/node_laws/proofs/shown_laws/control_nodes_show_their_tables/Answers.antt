use Rattle.node_laws.proofs.Shown.{shown_is, shown_in_order}
use Rattle.node_laws.proofs.shown_laws.control_nodes_show_their_tables.Goals as goal

pub returns-clause-exactly : goal.returns-clause-exactly
returns-clause-exactly c = shown_is

pub returns-clause-ascending : goal.returns-clause-ascending
returns-clause-ascending c = shown_in_order
