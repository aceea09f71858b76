use Rattle.std.proofs.Common.{ap, sym, ◌∙◌, map}
use Rattle.path_select.specs.NodeModel.Reaching.{publisher}
use Rattle.vpn_holdings.specs.Routes.{path_of}
use Rattle.vpn_holdings.proofs.Leads.{none_led}
use Rattle.vpn_holdings.proofs.holdings.VpnHoldings.lead_into.Goals as goal

pub returns-in-None : goal.returns-in-None
returns-in-None c =
    none_led c.args.self.now c.args.side.now c.args.distance (map path_of c.args.routes.now.items)
    (ap (publisher c.args.self.now) (sym c.circuit_at.ensures.circuit) ∙ sym (c.publisher.ensures.counts c.circuit_at.ensures.at_most) ∙ c.in-None.is)
