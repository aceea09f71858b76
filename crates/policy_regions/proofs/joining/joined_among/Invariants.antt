use Rattle.std.proofs.Common.{◌≡◌, ◌++◌, drop}
use Rattle.policy_regions.specs.Joining.{among}
use Rattle.policy_regions.proofs.joining.joined_among.Given as goal

abbrev pub invariant-loop-other : goal.invariant-loop-other
invariant-loop-other l = l.apart.items ++ among l.region (drop l.other-index l.others) ≡ among l.fn.region l.others
