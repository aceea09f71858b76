use Rattle.std.proofs.Common.{◌≡◌, ◌++◌, drop, flat_map}
use Rattle.config_check.specs.Finding.{network_named}
use Rattle.inspect_changes.specs.Unchanged.{standing, standing_as}
use Rattle.inspect_changes.proofs.standing.standing_networks.Given as goal

abbrev pub invariant-loop-network : goal.invariant-loop-network
invariant-loop-network l =
    l.networks.items ++ flat_map (λ a. standing_as l.before.config l.after.config a (network_named l.after.config a.name)) (drop l.network-index l.network-items)
    ≡ standing l.before.config l.after.config
