use Rattle.std.proofs.Common.{◌≡◌, ◌++◌, drop, map}
use Rattle.inspect_changes.specs.Objects.{network_of}
use Rattle.inspect_changes.proofs.objects.push_networks.Given as goal

abbrev pub invariant-loop-network : goal.invariant-loop-network
invariant-loop-network l = l.objects.items ++ map network_of (drop l.network-index l.networks) ≡ l.initial.objects.items ++ map network_of l.networks
