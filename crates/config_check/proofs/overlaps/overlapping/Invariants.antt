use Rattle.std.proofs.Common.{◌≡◌, drop, map}
use Rattle.config_check.specs.Rules.{overlapping}
use Rattle.config_check.proofs.overlaps.overlapping.Given as goal

abbrev pub invariant-loop-index : goal.invariant-loop-index
invariant-loop-index l = overlapping (map (λ n. n.now) (drop l.index l.group)) ≡ overlapping (map (λ n. n.now) l.group)
