use Rattle.std.proofs.Common.{subst}
use Rattle.path_select.specs.NodeModel.Paths.{Holdings}
use Rattle.vpn_holdings.specs.Indexed.{AreInOrder}
use Rattle.vpn_holdings.proofs.holdings.VpnHoldings.agents_are_in_order.Goals as goal

pub returns : goal.returns
returns c = subst (λ (h : Holdings). AreInOrder h.agents) c.self.view_is c.self.invariant.5
