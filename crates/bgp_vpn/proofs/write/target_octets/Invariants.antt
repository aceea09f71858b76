use Rattle.std.proofs.Common.{◌≡◌, ◌++◌, drop}
use Rattle.std.specs.List.{flat_map}
use Rattle.bgp_vpn.specs.Written.{target_octets}
use Rattle.bgp_vpn.proofs.write.target_octets.Given as goal

abbrev pub invariant-loop-target : goal.invariant-loop-target
invariant-loop-target l = l.octets.items ++ flat_map target_octets (drop l.target-index l.targets) ≡ flat_map target_octets l.targets
