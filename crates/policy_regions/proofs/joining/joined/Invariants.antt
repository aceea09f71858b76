use Rattle.std.proofs.Common.{◌≡◌, ◌-◌}
use Rattle.policy_regions.specs.Joining.{joined, joined_within}
use Rattle.policy_regions.proofs.joining.joined.Given as goal

abbrev pub invariant-loop-turn : goal.invariant-loop-turn
invariant-loop-turn l = joined_within (l.most - l._turn) l.regions.items ≡ joined l.fn.regions.items
