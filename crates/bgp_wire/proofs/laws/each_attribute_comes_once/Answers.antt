use Rattle.bgp_wire.proofs.Attributing.{says_all}
use Rattle.bgp_wire.proofs.laws.each_attribute_comes_once.Goals as goal

pub returns : goal.returns
returns c = says_all
