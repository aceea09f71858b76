use Rattle.std.proofs.Common.{◌≡◌, map, drop}
use Rattle.vpn_holdings.specs.Listing.{told_in}
use Rattle.vpn_holdings.specs.Views.{agent_of}
use Rattle.vpn_holdings.proofs.holdings.VpnHoldings.agent.Given as goal

abbrev pub invariant-loop-agent : goal.invariant-loop-agent
invariant-loop-agent l =
    told_in (map agent_of (drop l.agent-index l.agent-items)) l.session ≡ told_in (map agent_of l.agent-items) l.session
