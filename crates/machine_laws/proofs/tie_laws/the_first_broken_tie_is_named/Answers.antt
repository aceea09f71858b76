use Rattle.machine_laws.proofs.Relating.{first_node, first_port, first_use}
use Rattle.machine_laws.proofs.tie_laws.the_first_broken_tie_is_named.Goals as goal

pub returns-clause-ports : goal.returns-clause-ports
returns-clause-ports c = first_port

pub returns-clause-uses : goal.returns-clause-uses
returns-clause-uses c = first_use

pub returns-clause-nodes : goal.returns-clause-nodes
returns-clause-nodes c = first_node
