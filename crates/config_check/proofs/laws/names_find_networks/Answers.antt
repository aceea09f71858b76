use Rattle.config_check.proofs.Finders.{finds_network_named}
use Rattle.config_check.proofs.laws.names_find_networks.Goals as goal

pub returns : goal.returns
returns c = finds_network_named
