use Rattle.std.proofs.Common.{◌≡◌, ◌++◌, drop, map}
use Rattle.policy_regions.specs.Carved.{undecided}
use Rattle.policy_regions.proofs.carving.undecided.Given as goal

abbrev pub invariant-loop-region : goal.invariant-loop-region
invariant-loop-region l = l.regions.items ++ map undecided (drop l.region-index l.left) ≡ map undecided l.left
