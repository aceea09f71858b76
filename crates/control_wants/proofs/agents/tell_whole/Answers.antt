use Rattle.std.proofs.Common.{ap, map, ◌∙◌}
use Rattle.ov_sync.specs.Embed.{moved_delta}
use Rattle.control_wants.specs.NodeCore.Told.{down_of, down_value}
use Rattle.vpn_tables.specs.NodeModel.Keys.{of_down}
use Rattle.vpn_tables.specs.NodeModel.Maps.{Map, difference}
use Rattle.control_wants.proofs.Sending.{items_differ}
use Rattle.control_wants.proofs.agents.tell_whole.Goals as goal

pub returns-clause-changes : goal.returns-clause-changes
returns-clause-changes c =
    ap (map (moved_delta of_down down_value)) c.in_ok-changes.ensures.changes
    ∙ items_differ c.args.sent.now c.in_ok-wanted.wanted.entries
    ∙ ap (λ (w : Map). difference (down_of c.args.sent.now) w) c.in_ok-wanted.ensures
