use Rattle.std.proofs.Common.{◌≡◌, ◌++◌, drop}
use Rattle.ov_link.specs.Breaks.{counted}
use Rattle.ov_link.proofs.failing.counted.Given as goal

abbrev pub invariant-loop-n : goal.invariant-loop-n
invariant-loop-n l = l.later.items ++ counted (drop l.n-index l.breaks) ≡ counted l.breaks
