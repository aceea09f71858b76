use Rattle.std.proofs.Common.{◌∙◌, ap, subst, List}
use Rattle.std.specs.Prelude.{◌||◌}
use Rattle.std.specs.List.{list_any}
use Rattle.ov_types.specs.declared.targets.Target.{Target}
use Rattle.path_select.specs.NodeModel.Paths.{Holdings}
use Rattle.vpn_holdings.specs.Indexed.{AreInOrder, AreLabels, AreRoutes, leads_label, leads_route}
use Rattle.vpn_holdings.proofs.Subnets.{any_is}
use Rattle.vpn_holdings.proofs.holdings.VpnHoldings.has_path_within.Goals as goal

pub returns : goal.returns
returns c =
    let h = c.args.self.now in
    let subnet = c.args.subnet.now in
    let s = c.self.inside in
    let v = c.self.invariant in
    let routes = c.have_routes-routes.ensures in
    let labels = c.have_labels-labels.ensures in
    c.either.ensures ∙ (λ n. routes.leads n || labels.leads n)
    ∙ ap (λ (w : List Target). list_any (leads_route h w subnet) s.routes.entries || list_any (leads_label h w subnet) s.labels.entries) c.imported-imports.ensures
    ∙ any_is h c.args.i subnet s.routes s.labels
    (subst (λ (h : Holdings). AreRoutes s.routes h.peers) c.self.view_is v.3) (subst (λ (h : Holdings). AreLabels s.labels h.agents) c.self.view_is v.4)
    (subst (λ (h : Holdings). AreInOrder h.agents) c.self.view_is v.5) routes.ordered labels.ordered
