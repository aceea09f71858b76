use Rattle.std.proofs.Common.{length}
use Rattle.bgp_wire.specs.Opens.{IsCapability}
use Rattle.bgp_wire.proofs.Splitting.{Leaves}
use Rattle.bgp_wire.proofs.open.are_capabilities.Given as goal

abbrev pub invariant-loop-rest : goal.invariant-loop-rest
invariant-loop-rest l = Leaves IsCapability l.octets l.rest

abbrev pub decreases-loop-rest : goal.decreases-loop-rest
decreases-loop-rest l = length l.rest
