use Rattle.std.proofs.Common.{◌≡◌, ◌++◌, drop, map}
use Rattle.inspect_changes.specs.Objects.{subnet_of}
use Rattle.inspect_changes.proofs.objects.push_subnets.Given as goal

abbrev pub invariant-loop-prefix : goal.invariant-loop-prefix
invariant-loop-prefix l =
    l.objects.items ++ map (subnet_of l.network) (drop l.prefix-index l.subnets) ≡ l.initial.objects.items ++ map (subnet_of l.network) l.subnets
