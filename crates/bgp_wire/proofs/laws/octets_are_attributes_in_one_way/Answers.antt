use Rattle.bgp_wire.proofs.Attributing.{some_split, one_split}
use Rattle.bgp_wire.proofs.laws.octets_are_attributes_in_one_way.Goals as goal

pub returns-clause-some : goal.returns-clause-some
returns-clause-some c = some_split

pub returns-clause-attributes : goal.returns-clause-attributes
returns-clause-attributes c = λ octets s t a b x y. (one_split octets s t a b x y).0

pub returns-clause-tail : goal.returns-clause-tail
returns-clause-tail c = λ octets s t a b x y. (one_split octets s t a b x y).1
