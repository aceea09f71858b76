use Rattle.node_model.proofs.Objects.{imports_nothing}
use Rattle.node_model.proofs.Unknown.{no_rows}
use Rattle.node_model.proofs.control_laws.unknown_instances_have_nothing.Goals as goal

pub returns-clause-imports : goal.returns-clause-imports
returns-clause-imports c = imports_nothing

pub returns-clause-table : goal.returns-clause-table
returns-clause-table c = no_rows
