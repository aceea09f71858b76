use Rattle.std.proofs.Common.{◌≡◌, length}
use Rattle.std.specs.List.{fold}
use Rattle.bgp_vpn.specs.Values.{with_community, communities, targets_among}
use Rattle.bgp_vpn.proofs.targets.targets_among.Given as goal

abbrev pub invariant-loop-rest : goal.invariant-loop-rest
invariant-loop-rest l = fold with_community l.targets (communities l.rest) ≡ targets_among l.value

abbrev pub decreases-loop-rest : goal.decreases-loop-rest
decreases-loop-rest l = length l.rest
