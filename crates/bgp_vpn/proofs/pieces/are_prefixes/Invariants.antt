use Rattle.std.proofs.Common.{◌≡◌, length}
use Rattle.bgp_vpn.specs.Pieces.{are_prefixes}
use Rattle.bgp_vpn.proofs.pieces.are_prefixes.Given as goal

abbrev pub invariant-loop-rest : goal.invariant-loop-rest
invariant-loop-rest l = are_prefixes l.least l.greatest l.octets ≡ are_prefixes l.least l.greatest l.rest

abbrev pub decreases-loop-rest : goal.decreases-loop-rest
decreases-loop-rest l = length l.rest
