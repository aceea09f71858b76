use Rattle.std.proofs.Common.{◌≡◌, [], drop}
use Rattle.policy_regions.specs.Joining.{all_among}
use Rattle.policy_regions.proofs.joining.all_among.Given as goal

abbrev pub invariant-loop-region : goal.invariant-loop-region
invariant-loop-region l = all_among l.done.items (drop l.region-index l.regions) ≡ all_among [] l.regions
