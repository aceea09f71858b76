use Rattle.std.proofs.Common.{◌≡◌, ◌++◌, drop, flat_map}
use Rattle.inspect_rules.specs.Idle.{before_of}
use Rattle.inspect_rules.proofs.standing.rules_before.Given as goal

abbrev pub invariant-loop-rule : goal.invariant-loop-rule
invariant-loop-rule l =
    l.before.items ++ flat_map (before_of l.config l.other) (drop l.rule-index l.rules) ≡ flat_map (before_of l.config l.other) l.rules
