use Rattle.std.proofs.Common.{subst}
use Rattle.path_select.specs.NodeModel.Paths.{Holdings}
use Rattle.path_select.specs.NodeModel.Reaching.{AreShort}
use Rattle.vpn_holdings.proofs.Short.{short_feed}
use Rattle.vpn_holdings.proofs.holdings.VpnHoldings.uses_are_short.Goals as goal

pub returns : goal.returns
returns c = subst (λ (h : Holdings). AreShort h.feed) c.self.view_is (short_feed c.self.inside.low.entries c.self.invariant.0)
