use Rattle.std.proofs.Common.{◌≡◌, ◌++◌, drop, map}
use Rattle.inspect_rules.specs.Causes.{attached}
use Rattle.inspect_rules.specs.declared.cause.Cause.TheVariants.{Attached}
use Rattle.inspect_rules.proofs.causes.push_attached.Given as goal

abbrev pub invariant-loop-policy : goal.invariant-loop-policy
invariant-loop-policy l =
    l.found.items ++ map (λ policy. Attached l.network.name policy) (drop l.policy-index l.policy-items)
    ≡ l.initial.found.items ++ attached l.network
