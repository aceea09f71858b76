use Rattle.std.specs.Prelude.{is_some}
use Rattle.std.proofs.Common.{ap}
use Rattle.node_model.specs.Tables.{paths_of}
use Rattle.node_model.proofs.Selection.{selected_least, selected_found}
use Rattle.node_model.proofs.control_laws.rows_are_least_paths.Goals as goal

pub returns-clause-least : goal.returns-clause-least
returns-clause-least c = λ h i prefix p. selected_least (paths_of h i) prefix p

pub returns-clause-each : goal.returns-clause-each
returns-clause-each c = λ h i p m. ap is_some (selected_found (paths_of h i) p m).1
