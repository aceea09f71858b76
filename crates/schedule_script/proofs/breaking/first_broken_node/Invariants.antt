use Rattle.std.proofs.Common.{◌≡◌, drop}
use Rattle.ov_types.specs.First.{first_of}
use Rattle.schedule_script.specs.Broken.{broken_node}
use Rattle.schedule_script.specs.Kept.{ties_in}
use Rattle.schedule_script.proofs.breaking.first_broken_node.Given as goal

abbrev pub invariant-loop-node : goal.invariant-loop-node
invariant-loop-node l =
    first_of (broken_node (ties_in l.ties)) (drop l.node-index l.node-items)
    ≡ first_of (broken_node (ties_in l.ties)) l.topology.nodes
