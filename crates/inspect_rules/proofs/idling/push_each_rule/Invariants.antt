use Rattle.std.proofs.Common.{◌≡◌, ◌++◌, drop, flat_map}
use Rattle.inspect_rules.specs.Deciders.{has_rule}
use Rattle.inspect_rules.specs.Idle.{rule_unless}
use Rattle.inspect_rules.proofs.idling.push_each_rule.Given as goal

abbrev pub invariant-loop-rule : goal.invariant-loop-rule
invariant-loop-rule l =
    l.found.items ++ flat_map (λ r. rule_unless l.config l.rules r (has_rule l.deciders r.number)) (drop l.rule-index l.rules)
    ≡ l.fn.found.items ++ flat_map (λ r. rule_unless l.config l.rules r (has_rule l.deciders r.number)) l.rules
