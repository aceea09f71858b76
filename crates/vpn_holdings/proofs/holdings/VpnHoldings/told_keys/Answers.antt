use Rattle.std.proofs.Common.{ap}
use Rattle.path_select.specs.NodeModel.Paths.{Holdings}
use Rattle.vpn_holdings.proofs.Gathering.{uses_in_range}
use Rattle.vpn_holdings.proofs.holdings.VpnHoldings.told_keys.Goals as goal

pub returns-in_err-push_keys-clause-in_range : goal.returns-in_err-push_keys-clause-in_range
returns-in_err-push_keys-clause-in_range c = uses_in_range c.self.inside.low.entries c.args.self.now.feed (ap (λ (h : Holdings). h.feed) c.self.view_is) c.self.invariant.0

pub returns-clause-in_range : goal.returns-clause-in_range
returns-clause-in_range c = uses_in_range c.self.inside.low.entries c.args.self.now.feed (ap (λ (h : Holdings). h.feed) c.self.view_is) c.self.invariant.0
