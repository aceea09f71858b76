use Rattle.std.proofs.Common.{sym, ap, ◌∙◌}
use Rattle.ov_sync.proofs.Ascending.{get-map_of}
use Rattle.path_select.specs.NodeModel.Maps.{object}
use Rattle.path_select.specs.NodeModel.Paths.{Holdings}
use Rattle.path_select.proofs.NodeModel.Directions.{low_total}
use Rattle.vpn_holdings.specs.Views.{low_order}
use Rattle.vpn_holdings.proofs.Images.{feed-object}
use Rattle.vpn_holdings.proofs.Values.{fits_at}
use Rattle.vpn_holdings.proofs.holdings.VpnHoldings.low.Goals as goal

pub returns-clause-object : goal.returns-clause-object
returns-clause-object c =
    let es = c.self.inside.low.entries in
    c.get.ensures.value ∙ sym (feed-object es c.args.key.now ∙ get-map_of low_order low_total es c.args.key.now)
    ∙ ap (λ (h : Holdings). object h.feed c.args.key.now) c.self.view_is

pub returns-clause-fits : goal.returns-clause-fits
returns-clause-fits c =
    let es = c.self.inside.low.entries in
    fits_at es c.args.key.now c.get.result c.self.invariant.0 (c.get.ensures.value ∙ sym (get-map_of low_order low_total es c.args.key.now))
