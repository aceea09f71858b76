use Rattle.std.proofs.Common.{◌≡◌, ◌++◌, drop, flat_map}
use Rattle.inspect_rules.specs.Idle.{idle_policy}
use Rattle.inspect_rules.proofs.idling.push_policies.Given as goal

abbrev pub invariant-loop-policy : goal.invariant-loop-policy
invariant-loop-policy l =
    l.found.items ++ flat_map (idle_policy l.config) (drop l.policy-index l.config.policies)
    ≡ l.fn.found.items ++ flat_map (idle_policy l.config) l.config.policies
