use Rattle.std.proofs.Common.{List, ap, map, subst, sym, ◌∙◌}
use Rattle.std.proofs.lemmas.Result.{IfOk-weaker, on_ok_weaker}
use Rattle.std.specs.declared.option.Option.{Option}
use Rattle.ov_sync.specs.Embed.{moved_delta}
use Rattle.ov_types.specs.declared.vpn.VpnKey.{VpnKey}
use Rattle.ov_types.specs.declared.vpn.VpnRoute.{VpnRoute}
use Rattle.vpn_tables.specs.NodeModel.Keys.{Vpn}
use Rattle.vpn_tables.specs.NodeModel.Maps.{Map, difference}
use Rattle.vpn_tables.specs.NodeModel.Values.{Route}
use Rattle.vpn_tables.specs.NodeModel.Wants.{wanted_by_peers}
use Rattle.vpn_tables.specs.Views.{peer_of}
use Rattle.control_wants.specs.Wanted.{AreRoutes, AreRoutesWanted}
use Rattle.control_wants.specs.declared.peers.RoutesWanted.{RoutesWanted}
use Rattle.control_wants.proofs.Sending.{routes_agree, routes_differ}
use Rattle.control_wants.proofs.peers.tell_peer.Goals as goal

pub returns-in-Whole-clause-changes : goal.returns-in-Whole-clause-changes
returns-in-Whole-clause-changes c =
    let wanted = subst (λ (w : RoutesWanted). AreRoutesWanted c.args.dirty.now c.args.tables.now w) c.in-Whole.is c.requires.wanted in
    IfOk-weaker c.replace.result _ _ (λ changes e.
    ap (map (moved_delta Vpn Route)) e
    ∙ routes_differ c.args.sent.now c.in-Whole.wanted.entries
    ∙ ap (λ (w : Map). difference (peer_of c.args.sent.now) w) wanted) c.replace.ensures.changes

pub returns-in-Marked-clause-changes : goal.returns-in-Marked-clause-changes
returns-in-Marked-clause-changes c =
    let d = c.args.dirty.now in
    let h = c.args.tables.now in
    let wanted = subst (λ (w : RoutesWanted). AreRoutesWanted d h w) c.in-Marked.is c.requires.wanted in
    let are = subst (λ (es : List (VpnKey × Option VpnRoute)). AreRoutes d h es) (sym c.as_slice.ensures.value) wanted.1 in
    IfOk-weaker c.tell_routes.result _ _ (λ changes e.
    e (wanted_by_peers h) are.each (routes_agree d h (peer_of c.args.sent.now) c.as_slice.result.now wanted.0 are c.requires.tracked)) c.tell_routes.ensures.changes

pub returns-in-Marked-clause-sent : goal.returns-in-Marked-clause-sent
returns-in-Marked-clause-sent c =
    let d = c.args.dirty.now in
    let h = c.args.tables.now in
    let wanted = subst (λ (w : RoutesWanted). AreRoutesWanted d h w) c.in-Marked.is c.requires.wanted in
    let are = subst (λ (es : List (VpnKey × Option VpnRoute)). AreRoutes d h es) (sym c.as_slice.ensures.value) wanted.1 in
    on_ok_weaker c.tell_routes.result (λ e.
    e (wanted_by_peers h) are.each (routes_agree d h (peer_of c.args.sent.now) c.as_slice.result.now wanted.0 are c.requires.tracked)) c.tell_routes.ensures.sent
