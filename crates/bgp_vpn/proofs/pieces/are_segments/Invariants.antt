use Rattle.std.proofs.Common.{◌≡◌, length}
use Rattle.bgp_vpn.specs.Pieces.{are_segments}
use Rattle.bgp_vpn.proofs.pieces.are_segments.Given as goal

abbrev pub invariant-loop-rest : goal.invariant-loop-rest
invariant-loop-rest l = are_segments l.size l.octets ≡ are_segments l.size l.rest

abbrev pub decreases-loop-rest : goal.decreases-loop-rest
decreases-loop-rest l = length l.rest
