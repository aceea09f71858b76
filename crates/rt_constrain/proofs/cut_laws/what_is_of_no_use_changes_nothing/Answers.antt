use Rattle.rt_constrain.proofs.Same.{agents_same, peers_same, table_same}
use Rattle.rt_constrain.proofs.cut_laws.what_is_of_no_use_changes_nothing.Goals as goal

pub returns-clause-peers : goal.returns-clause-peers
returns-clause-peers c = peers_same

pub returns-clause-agents : goal.returns-clause-agents
returns-clause-agents c = agents_same

pub returns-clause-tables : goal.returns-clause-tables
returns-clause-tables c = table_same
