use Rattle.std.proofs.Common.{◌≡◌, ◌++◌, drop, flat_map}
use Rattle.policy_regions.specs.Carved.{taken_by}
use Rattle.policy_regions.proofs.carving.taken.Given as goal

abbrev pub invariant-loop-region : goal.invariant-loop-region
invariant-loop-region l =
    l.regions.items ++ flat_map (taken_by l.claim) (drop l.region-index l.left) ≡ flat_map (taken_by l.claim) l.left
