use Rattle.std.proofs.Common.{◌≡◌, map, take}
use Rattle.ov_sync.specs.Embed.{moved_delta}
use Rattle.node_core.specs.Told.{spelled}
use Rattle.node_core.specs.NodeModel.Keys.{of_up}
use Rattle.node_core.specs.NodeModel.Values.{Label as LabelOf}
use Rattle.agent_node.proofs.planning.spell_all.Given as goal

abbrev pub invariant-loop-delta : goal.invariant-loop-delta
invariant-loop-delta l =
    l.messages ≡ map (λ c. spelled c) (map (moved_delta of_up LabelOf) (take l.delta-index l.deltas))
