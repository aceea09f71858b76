use Rattle.std.proofs.Common.{ap, subst}
use Rattle.path_select.specs.NodeModel.Paths.{Holdings}
use Rattle.path_select.specs.NodeModel.Reaching.{AreShort}
use Rattle.vpn_holdings.proofs.Gathering.{uses_in_range}
use Rattle.vpn_holdings.proofs.Short.{short_feed}
use Rattle.vpn_holdings.proofs.holdings.VpnHoldings.uses_are_in_range.Goals as goal

pub returns-clause-in_range : goal.returns-clause-in_range
returns-clause-in_range c = uses_in_range c.self.inside.low.entries c.args.self.now.feed (ap (λ (h : Holdings). h.feed) c.self.view_is) c.self.invariant.0

pub returns-clause-short : goal.returns-clause-short
returns-clause-short c = subst (λ (h : Holdings). AreShort h.feed) c.self.view_is (short_feed c.self.inside.low.entries c.self.invariant.0)
