use Rattle.std.proofs.Common.{◌≡◌, ◌++◌, Some, map, take}
use Rattle.running_nodes.proofs.plans.extend.Given as goal

abbrev pub invariant-loop-node : goal.invariant-loop-node
invariant-loop-node l = l.names.items ≡ l.fn.names.items ++ map (λ n. Some n.name) (take l.node-index l.nodes)
