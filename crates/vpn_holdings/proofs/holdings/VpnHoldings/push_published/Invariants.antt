use Rattle.std.proofs.Common.{◌≡◌, ◌++◌, map, drop}
use Rattle.std.specs.List.{flat_map}
use Rattle.vpn_holdings.specs.Gathered.{prefixes_in}
use Rattle.vpn_holdings.specs.Views.{agent_of}
use Rattle.vpn_holdings.proofs.holdings.VpnHoldings.push_published.Given as goal

abbrev pub invariant-loop-agent : goal.invariant-loop-agent
invariant-loop-agent l =
    l.prefixes.items ++ flat_map (λ a. prefixes_in a.map) (map agent_of (drop l.agent-index l.agent-items))
    ≡ l.fn.prefixes.items ++ flat_map (λ a. prefixes_in a.map) (map agent_of l.agent-items)
