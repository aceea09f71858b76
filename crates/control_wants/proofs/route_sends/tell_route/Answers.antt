use Rattle.std.proofs.Common.{ap, map, ◌∙◌}
use Rattle.std.specs.Option.{option_map}
use Rattle.ov_sync.specs.Embed.{moved_delta}
use Rattle.vpn_tables.specs.NodeModel.Keys.{Vpn}
use Rattle.vpn_tables.specs.NodeModel.Values.{Route}
use Rattle.control_wants.proofs.Images.{route_set, route_told}
use Rattle.control_wants.proofs.Moved.{follows}
use Rattle.control_wants.proofs.route_sends.tell_route.Goals as goal

pub returns-clause-change : goal.returns-clause-change
returns-clause-change c =
    ap (map (moved_delta Vpn Route)) c.in_ok-push_change.ensures
    ∙ follows (moved_delta Vpn Route) c.args.changes.now.items c.in_ok-delta.delta _
    (ap (option_map (moved_delta Vpn Route)) c.in_ok-delta.ensures.change ∙ route_told c.args.sent.now c.args.key c.args.wanted)

pub returns-clause-sent : goal.returns-clause-sent
returns-clause-sent c = route_set c.args.sent.now c.replace_key.new.self c.args.key c.args.wanted c.in_ok-delta.ensures.sent
