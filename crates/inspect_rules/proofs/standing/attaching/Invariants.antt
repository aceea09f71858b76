use Rattle.std.proofs.Common.{◌≡◌, ◌++◌, drop, filter, map}
use Rattle.inspect_rules.specs.Idle.{attaches_rule}
use Rattle.inspect_rules.proofs.standing.attaching.Given as goal

abbrev pub invariant-loop-network : goal.invariant-loop-network
invariant-loop-network l =
    map (λ a. a.now) l.networks.items ++ filter (λ a. attaches_rule l.config a l.rule) (drop l.network-index l.network-items)
    ≡ filter (λ a. attaches_rule l.config a l.rule) l.config.networks
