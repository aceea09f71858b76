use Rattle.config_check.proofs.Finders.{finds_network_numbered}
use Rattle.config_check.proofs.laws.numbers_find_networks.Goals as goal

pub returns : goal.returns
returns c = finds_network_numbered
