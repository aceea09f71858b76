use Rattle.std.proofs.Common.{◌≡◌, map, drop}
use Rattle.path_select.specs.NodeModel.Reaching.{published_in}
use Rattle.vpn_holdings.specs.Views.{agent_of}
use Rattle.vpn_holdings.proofs.holdings.VpnHoldings.publisher.Given as goal

abbrev pub invariant-loop-agent : goal.invariant-loop-agent
invariant-loop-agent l =
    published_in (map agent_of (drop l.agent-index l.agent-items)) l.circuit ≡ published_in (map agent_of l.agent-items) l.circuit
