use Rattle.std.proofs.Common.{◌≡◌, ◌++◌, drop}
use Rattle.policy_regions.proofs.carving.push_each.Given as goal

abbrev pub invariant-loop-region : goal.invariant-loop-region
invariant-loop-region l = l.regions.items ++ drop l.region-index l.others ≡ l.initial.regions.items ++ l.others
