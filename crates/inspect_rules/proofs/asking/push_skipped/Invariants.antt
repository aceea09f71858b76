use Rattle.std.proofs.Common.{◌≡◌, ◌++◌, drop}
use Rattle.inspect_rules.specs.Causes.{leading, skipped}
use Rattle.inspect_rules.proofs.asking.push_skipped.Given as goal

abbrev pub invariant-loop-rule : goal.invariant-loop-rule
invariant-loop-rule l =
    l.found.items ++ leading (skipped l.config l.from l.to l.tuple) (drop l.rule-index l.rules)
    ≡ l.initial.found.items ++ leading (skipped l.config l.from l.to l.tuple) l.rules
