use Rattle.std.proofs.Common.{◌≡◌, ◌++◌, map, take, drop}
use Rattle.config_node.specs.Ends.{doubted}
use Rattle.config_node.proofs.ends.doubt_all.Given as goal

abbrev pub invariant-loop-end : goal.invariant-loop-end
invariant-loop-end l = l.ends ≡ map doubted (take l.end-index l.fn.ends) ++ drop l.end-index l.fn.ends
