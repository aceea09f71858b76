use Rattle.std.proofs.Common.{◌≡◌, ◌++◌, drop, flat_map}
use Rattle.hitless_cells.specs.Ends.{ends_from}
use Rattle.hitless_cells.proofs.ends.ends_of.Given as goal

abbrev pub invariant-loop-network : goal.invariant-loop-network
invariant-loop-network l = l.list.items ++ flat_map (ends_from l.after l.joints.items) (drop l.network-index l.before.config.networks) ≡ flat_map (ends_from l.after l.joints.items) l.before.config.networks
