use Rattle.std.proofs.Common.{refl, sym, ◌∙◌, subst, List, ◌++◌}
use Rattle.std.specs.Prelude.{[], None, map, true, false}
use Rattle.std.specs.List.{cons_option, filter, filter_map}
use Rattle.path_select.specs.NodeModel.Paths.{Holdings}
use Rattle.path_select.specs.Selection.{plain}
use Rattle.path_select.specs.declared.selection.Path.{Path}
use Rattle.vpn_holdings.specs.At.{IsChosen, better_of, led_at}
use Rattle.vpn_holdings.specs.Indexed.{AreInOrder, AreLabels, AreRoutes, is_label_to, is_route_to, label_path, route_path}
use Rattle.vpn_holdings.proofs.Best.{many_more, one_more}
use Rattle.vpn_holdings.proofs.Choosing.{chosen_path}
use Rattle.vpn_holdings.proofs.PathsReceived.{all_gathered}
use Rattle.vpn_holdings.proofs.WithLed.{with_led}
use Rattle.vpn_holdings.proofs.holdings.VpnHoldings.selected.Goals as goal

pub returns : goal.returns
returns c =
    let s = c.self.inside in
    let v = c.self.invariant in
    let h = c.args.self.now in
    let i = c.args.i in
    let q = c.args.prefix.now in
    let w = c.imported-imports.result in
    let routes = filter (λ e. is_route_to q e.0) s.routes.entries in
    let labels = filter (λ e. is_label_to q e.0) s.labels.entries in
    let told = filter_map (route_path h w) routes in
    let both = told ++ filter_map (label_path h w) labels in
    let right = both ++ map plain (led_at h i q true) in
    let all = right ++ map plain (led_at h i q false) in
    let received = all_gathered h i q s.routes s.labels
    (subst (λ (h : Holdings). AreRoutes s.routes h.peers) c.self.view_is v.3) (subst (λ (h : Holdings). AreLabels s.labels h.agents) c.self.view_is v.4)
    (subst (λ (h : Holdings). AreInOrder h.agents) c.self.view_is v.5) c.best_of_routes-told.ensures.ordered c.best_of_labels-received.ensures.ordered
    w [] told both c.imported-imports.ensures refl refl refl in
    let first = subst (IsChosen told) (sym c.best_of_routes-told.ensures.best) (many_more (route_path h w) routes [] None refl) in
    let second = subst (IsChosen both) (sym c.best_of_labels-received.ensures.best) (many_more (label_path h w) labels told c.best_of_routes-told.result first) in
    let third = subst (λ (l : List Path). IsChosen (both ++ l) c.better_of-with_right.result) c.led_path.ensures
    (subst (IsChosen (both ++ cons_option c.led_path.result [])) (sym c.better_of-with_right.ensures) (one_more both c.best_of_labels-received.result c.led_path.result second)) in
    let fourth = subst (λ (l : List Path). IsChosen (right ++ l) (better_of c.better_of-with_right.result c.led_path-2.result)) c.led_path-2.ensures (one_more right c.better_of-with_right.result c.led_path-2.result third) in
    c.better_of.ensures ∙ sym (chosen_path h i q all (better_of c.better_of-with_right.result c.led_path-2.result) (with_led h i q c.uses_are_short.ensures both right all received refl refl) fourth)
