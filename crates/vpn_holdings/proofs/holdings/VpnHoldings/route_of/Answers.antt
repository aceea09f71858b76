use Rattle.std.proofs.Common.{Some, ◌<◌, ◌-◌, ap, sym, ◌∙◌, map, arith}
use Rattle.std.specs.List.{slice_get}
use Rattle.std.specs.FinMap.{get, get-empty}
use Rattle.std.proofs.lemmas.Option.{slice_get-get_or}
use Rattle.ov_sync.specs.Keyed.{map_of}
use Rattle.path_select.specs.NodeModel.Keys.{Vpn, key_cmp}
use Rattle.path_select.specs.NodeModel.Paths.{Holdings}
use Rattle.vpn_holdings.specs.Indexed.{as_route}
use Rattle.vpn_holdings.specs.Moved.{map_at}
use Rattle.vpn_holdings.specs.Views.{peer_of, vpn_order}
use Rattle.vpn_holdings.proofs.Before.{map_is, map_past}
use Rattle.vpn_holdings.proofs.Images.{peer-get}
use Rattle.vpn_holdings.proofs.PeersIndexed.{as_route_of, told_behind, told_nothing}
use Rattle.vpn_holdings.proofs.holdings.VpnHoldings.route_of.Goals as goal

pub returns-then-session-eq0 : goal.returns-then-session-eq0
returns-then-session-eq0 c = told_nothing c.args.self.now.peers c.args.session c.args.key.now c.if-session-eq0.true

pub returns-in-Some : goal.returns-in-Some
returns-in-Some c =
    let lt : 0 < c.args.session = omega arith in
    let k = c.args.key.now in
    let at = ap (λ (h : Holdings). map_at h.peers (c.args.session - 1)) (sym c.self.view_is) ∙ ap (map_at (map peer_of c.self.inside.peers.items)) (sym c.from.ensures)
    ∙ map_is c.self.inside.peers.items c.from.result c.in-Some.routes.now
    (ap (λ ps. slice_get ps c.from.result) (sym c.deref.ensures.value)
    ∙ slice_get-get_or c.deref.result.now c.from.result c.in-Some.routes.now c.in-Some.ensures.lookup.3.0 ∙ ap Some (sym c.in-Some.ensures.lookup.1)) in
    c.get-in-Some.ensures ∙ sym (ap (λ m. as_route (get m (Vpn k))) at ∙ ap as_route (peer-get c.in-Some.routes.now k) ∙ as_route_of (get (map_of vpn_order c.in-Some.routes.now) k))
    ∙ told_behind c.args.self.now.peers c.args.session k lt

pub returns-in-None : goal.returns-in-None
returns-in-None c =
    let lt : 0 < c.args.session = omega arith in
    let k = c.args.key.now in
    let at = ap (λ (h : Holdings). map_at h.peers (c.args.session - 1)) (sym c.self.view_is) ∙ ap (map_at (map peer_of c.self.inside.peers.items)) (sym c.from.ensures)
    ∙ ap (λ ps. map_at (map peer_of ps) c.from.result) (sym c.deref.ensures.value) ∙ map_past c.deref.result.now c.from.result c.in-None.ensures.lookup.3 in
    sym (ap (λ m. as_route (get m (Vpn k))) at ∙ ap as_route (get-empty key_cmp (Vpn k))) ∙ told_behind c.args.self.now.peers c.args.session k lt
