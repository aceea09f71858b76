use Rattle.config_check.proofs.OneHome.{one_network}
use Rattle.config_check.proofs.laws.addresses_have_one_network.Goals as goal

pub returns : goal.returns
returns c = one_network
