use Rattle.std.proofs.Common.{map}
use Rattle.ov_sync.specs.Embed.{moved_delta}
use Rattle.node_core.specs.Told.{down_value}
use Rattle.vpn_tables.specs.NodeModel.Keys.{of_down}
use Rattle.node_core.specs.Told.{down_of}
use Rattle.control_wants.proofs.OneByOne.{SoFar}
use Rattle.control_wants.proofs.item_sends.tell_items.Given as goal

abbrev pub invariant-loop-key : goal.invariant-loop-key
invariant-loop-key l =
    SoFar of_down down_value l.wanted (down_of l.fn.sent) l.key-index (map (moved_delta of_down down_value) l.deltas.items) (down_of l.sent)
