use Rattle.std.proofs.Common.{◌≡◌, ◌++◌, drop, flat_map}
use Rattle.inspect_rules.specs.Causes.{holder}
use Rattle.inspect_rules.proofs.causes.push_holders.Given as goal

abbrev pub invariant-loop-network : goal.invariant-loop-network
invariant-loop-network l =
    l.found.items ++ flat_map (holder l.address.0) (drop l.network-index l.networks)
    ≡ l.initial.found.items ++ flat_map (holder l.address.0) l.networks
