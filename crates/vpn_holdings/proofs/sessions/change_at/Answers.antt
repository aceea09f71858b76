use Rattle.std.proofs.Common.{refl, ◌<◌, ◌≤◌, length, ◌∙◌, ap, map, List, rules}
use Rattle.std.proofs.lemmas.Option.{slice_get_read}
use Rattle.ov_sync.specs.Keyed.{changed, map_of}
use Rattle.ov_types.specs.declared.vpn.VpnKey.{VpnKey}
use Rattle.ov_types.specs.declared.vpn.VpnRoute.{VpnRoute}
use Rattle.vpn_holdings.specs.Views.{vpn_order, peer_of}
use Rattle.vpn_holdings.proofs.Peers.{changed_within, changed_past}
use Rattle.vpn_holdings.proofs.sessions.change_at.Goals as goal

pub returns-then-place-len-clause-ok : goal.returns-then-place-len-clause-ok
returns-then-place-len-clause-ok c =
    let lt : c.args.place < length c.args.peers.now.items = search rules in
    changed_within c.args.peers.now.items c.args.place c.index_mut-peer.result.now c.apply.new.self c.args.delta
    (slice_get_read c.args.peers.now.items (length c.args.peers.now.items) c.args.place c.index_mut-peer.result.now refl lt c.index_mut-peer.ensures.value)
    c.in_ok-apply.ensures.ok

pub returns-in-Ok-clause-ok : goal.returns-in-Ok-clause-ok
returns-in-Ok-clause-ok c =
    let le : length c.args.peers.now.items ≤ c.args.place = search rules in
    ap (map peer_of) c.in-Ok.ensures.ok
    ∙ changed_past c.args.peers.now.items c.args.place c.apply-2.new.self c.args.delta le
    (c.in_ok-apply-2.ensures.ok ∙ ap (λ (es : List (VpnKey × VpnRoute)). changed (map_of vpn_order es) c.args.delta) c.new-peer.ensures)
