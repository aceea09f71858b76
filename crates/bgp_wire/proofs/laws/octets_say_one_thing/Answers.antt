use Rattle.bgp_wire.proofs.Readings.{one_message, one_fault}
use Rattle.bgp_wire.proofs.laws.octets_say_one_thing.Goals as goal

pub returns-clause-content : goal.returns-clause-content
returns-clause-content c = λ octets a b n m x y. (one_message octets a b n m x y).0

pub returns-clause-length : goal.returns-clause-length
returns-clause-length c = λ octets a b n m x y. (one_message octets a b n m x y).1

pub returns-clause-fault : goal.returns-clause-fault
returns-clause-fault c = one_fault
