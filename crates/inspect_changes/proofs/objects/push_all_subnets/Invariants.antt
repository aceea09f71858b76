use Rattle.std.proofs.Common.{◌≡◌, ◌++◌, drop, flat_map}
use Rattle.inspect_changes.specs.Objects.{subnets_of}
use Rattle.inspect_changes.proofs.objects.push_all_subnets.Given as goal

abbrev pub invariant-loop-network : goal.invariant-loop-network
invariant-loop-network l = l.objects.items ++ flat_map subnets_of (drop l.network-index l.networks) ≡ l.initial.objects.items ++ flat_map subnets_of l.networks
