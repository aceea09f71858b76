use Rattle.std.proofs.Common.{◌≡◌, map, take}
use Rattle.ov_sync.specs.Embed.{moved_delta}
use Rattle.node_core.specs.Told.{spelled}
use Rattle.node_core.specs.NodeModel.Keys.{Low}
use Rattle.node_core.specs.NodeModel.Values.{Object}
use Rattle.config_node.proofs.planning.spell_all.Given as goal

abbrev pub invariant-loop-delta : goal.invariant-loop-delta
invariant-loop-delta l =
    l.messages ≡ map (λ c. spelled c) (map (moved_delta Low Object) (take l.delta-index l.deltas))
