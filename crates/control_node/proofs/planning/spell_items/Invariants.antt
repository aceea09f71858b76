use Rattle.std.proofs.Common.{◌≡◌, map, take}
use Rattle.ov_sync.specs.Embed.{moved_delta}
use Rattle.node_core.specs.NodeModel.Keys.{of_down}
use Rattle.node_core.specs.Told.{down_value, spelled}
use Rattle.control_node.proofs.planning.spell_items.Given as goal

abbrev pub invariant-loop-delta : goal.invariant-loop-delta
invariant-loop-delta l =
    l.messages.items ≡ map (λ d. spelled (moved_delta of_down down_value d)) (take l.delta-index l.deltas)
