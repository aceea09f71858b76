use Rattle.config_check.proofs.Finders.{finds_node_named}
use Rattle.config_check.proofs.laws.names_find_nodes.Goals as goal

pub returns : goal.returns
returns c = finds_node_named
