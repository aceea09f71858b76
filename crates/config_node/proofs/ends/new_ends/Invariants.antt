use Rattle.std.proofs.Common.{◌≡◌, map, take}
use Rattle.config_node.specs.Ends.{new_end}
use Rattle.config_node.proofs.ends.new_ends.Given as goal

abbrev pub invariant-loop-controller : goal.invariant-loop-controller
invariant-loop-controller l = l.ends.items ≡ map new_end (take l.controller-index l.controllers)
