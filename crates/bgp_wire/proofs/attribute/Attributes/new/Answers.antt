use Rattle.std.proofs.Common.{arith}
use Rattle.bgp_wire.proofs.attribute.Attributes.new.Goals as goal

pub returns-clause-octets : goal.returns-clause-octets
returns-clause-octets c = λ k. omega (arith, c.type_inv.octets k)
