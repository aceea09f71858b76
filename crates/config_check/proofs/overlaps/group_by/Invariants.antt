use Rattle.std.proofs.Common.{◌≡◌, ◌++◌, drop, filter, map}
use Rattle.config_check.specs.Between.{is_in_group}
use Rattle.config_check.proofs.overlaps.group_by.Given as goal

abbrev pub invariant-loop-other : goal.invariant-loop-other
invariant-loop-other l =
    map (λ n. n.now) l.group.items ++ filter (is_in_group (map (λ p. p.now) l.policies) l.network) (drop l.other-index l.other-items)
    ≡ filter (is_in_group (map (λ p. p.now) l.policies) l.network) l.config.networks
