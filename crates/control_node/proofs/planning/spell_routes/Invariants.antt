use Rattle.std.proofs.Common.{◌≡◌, map, take}
use Rattle.ov_sync.specs.Embed.{moved_delta}
use Rattle.node_core.specs.NodeModel.Keys.{Vpn}
use Rattle.node_core.specs.NodeModel.Values.{Route}
use Rattle.node_routes.specs.Told.{spelled}
use Rattle.control_node.proofs.planning.spell_routes.Given as goal

abbrev pub invariant-loop-delta : goal.invariant-loop-delta
invariant-loop-delta l =
    l.messages.items ≡ map (λ d. spelled (moved_delta Vpn Route d)) (take l.delta-index l.deltas)
