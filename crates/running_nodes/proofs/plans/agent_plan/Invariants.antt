use Rattle.std.proofs.Common.{◌≡◌, map, take}
use Rattle.running_nodes.specs.Seats.{controller_named}
use Rattle.running_nodes.proofs.plans.agent_plan.Given as goal

abbrev pub invariant-loop-name : goal.invariant-loop-name
invariant-loop-name l = l.controllers ≡ map (controller_named l.topology) (take l.name-index l.name-items)
