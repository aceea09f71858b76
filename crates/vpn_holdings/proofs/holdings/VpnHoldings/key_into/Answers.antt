use Rattle.std.proofs.Common.{ap, sym, ◌∙◌}
use Rattle.path_select.specs.NodeModel.Reaching.{publisher}
use Rattle.vpn_holdings.proofs.Keyed.{none_keyed}
use Rattle.vpn_holdings.proofs.holdings.VpnHoldings.key_into.Goals as goal

pub returns-in-None : goal.returns-in-None
returns-in-None c =
    none_keyed c.args.self.now c.args.side.now c.args.distance c.args.keys.now.items
    (ap (publisher c.args.self.now) (sym c.circuit_at.ensures.circuit) ∙ sym (c.publisher.ensures.counts c.circuit_at.ensures.at_most) ∙ c.in-None.is)
