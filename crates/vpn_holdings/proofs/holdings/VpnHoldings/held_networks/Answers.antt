use Rattle.std.proofs.Common.{◌∙◌, ap}
use Rattle.std.specs.List.{filter}
use Rattle.ov_types.specs.declared.objects.LowKey.{LowKey}
use Rattle.ov_types.specs.declared.objects.LowValue.{LowValue}
use Rattle.path_select.specs.NodeModel.Paths.{Holdings}
use Rattle.vpn_holdings.specs.Kinds.{is_network}
use Rattle.vpn_holdings.proofs.KindWalks.{before_attachments}
use Rattle.vpn_holdings.proofs.Listed.{objects_are}
use Rattle.vpn_holdings.proofs.holdings.VpnHoldings.held_networks.Goals as goal

pub returns : goal.returns
returns c =
    c.range.ensures.between tt
    ∙ (λ i. filter (λ (e : LowKey × LowValue). before_attachments e.0 i) c.self.inside.low.entries)
    ∙ ap (filter (λ (e : LowKey × LowValue). is_network e.0))
    (objects_are c.args.self.now.feed c.self.inside.low.entries c.range.ensures.ordered (ap (λ (h : Holdings). h.feed) c.self.view_is))
