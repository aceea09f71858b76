use Rattle.scenario_gen.proofs.Places.{ports_have_networks}
use Rattle.scenario_gen.proofs.laws.ports_are_in_their_networks.Goals as goal

pub returns : goal.returns
returns c = ports_have_networks
