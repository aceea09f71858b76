use Rattle.std.proofs.Common.{◌≡◌, ◌++◌, take, drop}
use Rattle.ov_types.specs.Targets.{with_target}
use Rattle.ov_types.proofs.targets.place_of.Given as goal

abbrev pub invariant-loop-index : goal.invariant-loop-index
invariant-loop-index l = with_target l.target l.list ≡ take l.index l.list ++ with_target l.target (drop l.index l.list)
