use Rattle.std.proofs.Common.{◌≡◌, map, take}
use Rattle.control_node.specs.Made.{new_agent}
use Rattle.control_node.proofs.making.new_agents.Given as goal

abbrev pub invariant-loop-id : goal.invariant-loop-id
invariant-loop-id l = l.ends.items ≡ map new_agent (take l.id-index l.ids)
