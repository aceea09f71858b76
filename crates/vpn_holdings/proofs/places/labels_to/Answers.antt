use Rattle.std.proofs.Common.{◌∙◌}
use Rattle.std.specs.List.{filter}
use Rattle.ov_types.specs.Prefix.{Block}
use Rattle.vpn_holdings.specs.declared.places.LabelAt.{LabelAt}
use Rattle.vpn_holdings.proofs.PrefixOrder.{between_labels}
use Rattle.vpn_holdings.proofs.places.labels_to.Goals as goal

pub returns-clause-labels : goal.returns-clause-labels
returns-clause-labels c =
    c.range.ensures.between tt
    ∙ (λ i. filter (λ (e : LabelAt × Block). between_labels c.args.prefix.now c.addr.result c.addr-2.result c.len.result c.len-2.result c.addr.ensures.addr c.addr-2.ensures.addr c.len.ensures.len c.len-2.ensures.len e.0 i) c.args.labels.now.entries)
