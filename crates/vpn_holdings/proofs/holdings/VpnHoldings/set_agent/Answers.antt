use Rattle.std.proofs.Common.{map}
use Rattle.vpn_holdings.specs.Views.{agent_of}
use Rattle.vpn_holdings.proofs.AgentsIndexed.{in_order_named, kept_named}
use Rattle.vpn_holdings.proofs.holdings.VpnHoldings.set_agent.Goals as goal

pub invariant_of-self-2 : goal.invariant_of-self-2
invariant_of-self-2 c =
    let agents = map agent_of c.self.inside.agents.items in
    let later = map agent_of c.name_agent.new.agents.items in
    let v = c.self.invariant in (
      v.0,
      v.1,
      v.2,
      v.3,
      kept_named c.self.inside.labels agents later c.args.session c.args.address c.in_ok-name_agent.ensures.ok v.5 v.4,
      in_order_named agents later c.args.session c.args.address c.in_ok-name_agent.ensures.ok v.5,
    )
