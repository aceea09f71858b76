use Rattle.std.proofs.Common.{ap, map, ◌∙◌}
use Rattle.std.specs.Option.{option_map}
use Rattle.ov_sync.specs.Embed.{moved_delta}
use Rattle.node_core.specs.Told.{down_value}
use Rattle.vpn_tables.specs.NodeModel.Keys.{of_down}
use Rattle.control_wants.proofs.Images.{item_set, item_told}
use Rattle.control_wants.proofs.Moved.{follows}
use Rattle.control_wants.proofs.item_sends.tell_item.Goals as goal

pub returns-clause-change : goal.returns-clause-change
returns-clause-change c =
    ap (map (moved_delta of_down down_value)) c.in_ok-push_change.ensures
    ∙ follows (moved_delta of_down down_value) c.args.changes.now.items c.in_ok-delta.delta _
    (ap (option_map (moved_delta of_down down_value)) c.in_ok-delta.ensures.change ∙ item_told c.args.sent.now c.args.key c.args.wanted)

pub returns-clause-sent : goal.returns-clause-sent
returns-clause-sent c = item_set c.args.sent.now c.replace_key.new.self c.args.key c.args.wanted c.in_ok-delta.ensures.sent
