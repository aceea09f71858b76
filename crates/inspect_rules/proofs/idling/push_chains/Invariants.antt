use Rattle.std.proofs.Common.{◌≡◌, ◌++◌, drop, flat_map}
use Rattle.inspect_rules.specs.Idle.{idle_chain}
use Rattle.inspect_rules.proofs.idling.push_chains.Given as goal

abbrev pub invariant-loop-chain : goal.invariant-loop-chain
invariant-loop-chain l =
    l.found.items ++ flat_map (idle_chain l.config) (drop l.chain-index l.config.chains)
    ≡ l.fn.found.items ++ flat_map (idle_chain l.config) l.config.chains
