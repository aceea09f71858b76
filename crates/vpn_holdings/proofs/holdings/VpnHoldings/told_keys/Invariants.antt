use Rattle.std.proofs.Common.{◌≡◌, ◌++◌, map, drop}
use Rattle.std.specs.List.{flat_map}
use Rattle.vpn_holdings.specs.Gathered.{keys_told}
use Rattle.vpn_holdings.specs.Views.{agent_of}
use Rattle.vpn_holdings.proofs.holdings.VpnHoldings.told_keys.Given as goal

abbrev pub invariant-loop-agent : goal.invariant-loop-agent
invariant-loop-agent l =
    l.keys.items ++ flat_map keys_told (map agent_of (drop l.agent-index l.agent-items))
    ≡ flat_map keys_told (map agent_of l.agent-items)
