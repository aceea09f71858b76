use Rattle.std.proofs.Common.{subst}
use Rattle.path_select.specs.NodeModel.Paths.{Holdings}
use Rattle.vpn_holdings.specs.Indexed.{AreInOrder, AreLabels, AreRoutes}
use Rattle.vpn_holdings.proofs.PathsReceived.{all_gathered}
use Rattle.vpn_holdings.proofs.holdings.VpnHoldings.received_at.Goals as goal

pub returns : goal.returns
returns c =
    let s = c.self.inside in
    let v = c.self.invariant in
    let h = c.args.self.now in
    all_gathered h c.args.i c.args.prefix.now s.routes s.labels
    (subst (λ (h : Holdings). AreRoutes s.routes h.peers) c.self.view_is v.3) (subst (λ (h : Holdings). AreLabels s.labels h.agents) c.self.view_is v.4)
    (subst (λ (h : Holdings). AreInOrder h.agents) c.self.view_is v.5) c.push_routes.ensures.ordered c.push_labels.ensures.ordered
    c.imported-imports.result c.new-paths.result.items c.push_routes.new.paths.items c.push_labels.new.paths.items
    c.imported-imports.ensures c.new-paths.ensures.items c.in_ok-push_routes.ensures.paths c.in_ok-push_labels.ensures.paths
