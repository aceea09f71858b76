use Rattle.machine_laws.proofs.Configured.{agents_show_rows, control_nodes_show_tables}
use Rattle.machine_laws.proofs.headline_laws.settled_tables_are_those_of_the_configuration.Goals as goal

pub returns-clause-controls : goal.returns-clause-controls
returns-clause-controls c = control_nodes_show_tables

pub returns-clause-agents : goal.returns-clause-agents
returns-clause-agents c = agents_show_rows
