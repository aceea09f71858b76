use Rattle.std.proofs.Common.{◌≡◌, map, drop}
use Rattle.vpn_holdings.specs.Moved.{told_on}
use Rattle.vpn_holdings.specs.TouchedKeys.{published_key}
use Rattle.vpn_holdings.specs.Views.{agent_of}
use Rattle.vpn_holdings.proofs.holdings.VpnHoldings.key_published.Given as goal

abbrev pub invariant-loop-agent : goal.invariant-loop-agent
invariant-loop-agent l =
    published_key (told_on (map agent_of (drop l.agent-index l.agent-items)) l.session) l.key
    ≡ published_key (told_on (map agent_of l.agent-items) l.session) l.key
