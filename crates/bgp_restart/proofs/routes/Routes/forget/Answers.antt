use Rattle.std.specs.Prelude.{◌∷◌, ◌+◌, drop, cond, None, List}
use Rattle.std.specs.Ordering.{eq_by_cmp}
use Rattle.std.specs.FinMap.{FinMap, get, get-remove}
use Rattle.std.proofs.lemmas.List.{drop_more}
use Rattle.std.proofs.Common.{sym, ◌∙◌, ap}
use Rattle.ov_types.specs.declared.vpn.VpnKey.{VpnKey}
use Rattle.ov_types.specs.declared.vpn.VpnRoute.{VpnRoute}
use Rattle.ov_sync.specs.declared.Delta.{Delta}
use Rattle.ov_sync.specs.Keyed.{is_changed}
use Rattle.bgp_restart.specs.Events.{key_order}
use Rattle.bgp_restart.specs.Routes.{routes_in}
use Rattle.bgp_restart.proofs.Owning.{key_total, forgets}
use Rattle.bgp_restart.proofs.routes.Routes.forget.Goals as goal

pub loop-change-preserved : goal.loop-change-preserved
loop-change-preserved c k =
    let i = c.loop-change.change-index in
    let all : List (Delta VpnKey VpnRoute) = c.args.changes.now in
    let before : FinMap key_order VpnRoute = routes_in c.loop-change.self in
    forgets k c.change-item.result (drop (i + 1) all) (get before k) _ _
    (ap (λ (m : FinMap key_order VpnRoute). get m k) c.remove.ensures ∙ get-remove key_total before c.key_of.result.now k
    ∙ ap (λ (x : VpnKey). cond (eq_by_cmp key_order k x) None (get before k)) c.key_of.ensures)
    (ap (λ (ds : List (Delta VpnKey VpnRoute)). cond (is_changed key_order ds k) None (get before k))
    (ap (λ (d : Delta VpnKey VpnRoute). d ∷ drop (i + 1) all) c.change-item.is ∙ sym (drop_more all i c.change-item.result c.loop-change-test.true))
    ∙ c.loop-change.invariant k)
