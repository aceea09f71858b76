use Rattle.std.proofs.Common.{◌≡◌, drop}
use Rattle.ov_types.specs.First.{first_of}
use Rattle.config_check.specs.Rules.{overlapping_around, broken_overlap}
use Rattle.config_check.proofs.overlaps.broken_overlap.Given as goal

abbrev pub invariant-loop-network : goal.invariant-loop-network
invariant-loop-network l = first_of (overlapping_around l.config) (drop l.network-index l.network-items) ≡ broken_overlap l.config
