use Rattle.std.proofs.Common.{◌≡◌}
use Rattle.std.specs.List.{filter_map}
use Rattle.vpn_holdings.specs.TouchedKeys.{first_keyed}
use Rattle.vpn_holdings.proofs.Walks.{own_typed}
use Rattle.vpn_holdings.proofs.holdings.VpnHoldings.agents_keyed.Given as goal

abbrev pub invariant-loop-told : goal.invariant-loop-told
invariant-loop-told l =
    first_keyed l.key (filter_map (own_typed l.self l.agent) l.told-iterator)
    ≡ first_keyed l.key (filter_map (own_typed l.self l.agent) l.agent.told)
