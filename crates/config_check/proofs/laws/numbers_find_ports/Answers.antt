use Rattle.config_check.proofs.Finders.{finds_port_numbered}
use Rattle.config_check.proofs.laws.numbers_find_ports.Goals as goal

pub returns : goal.returns
returns c = finds_port_numbered
