use Rattle.config_check.proofs.Finders.{finds_port_at}
use Rattle.config_check.proofs.laws.addresses_find_ports.Goals as goal

pub returns : goal.returns
returns c = finds_port_at
