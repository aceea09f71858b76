use Rattle.rt_constrain.proofs.Covered.{covers_it}
use Rattle.rt_constrain.proofs.laws.a_route_is_covered_by_the_bits_of_its_targets.Goals as goal

pub returns : goal.returns
returns c = covers_it
