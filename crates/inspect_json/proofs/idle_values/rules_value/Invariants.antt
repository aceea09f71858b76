use Rattle.std.proofs.Common.{◌≡◌, map, take}
use Rattle.serde_json.specs.View.{view}
use Rattle.inspect_json.specs.Values.{rule_value}
use Rattle.inspect_json.proofs.idle_values.rules_value.Given as goal

abbrev pub invariant-loop-rule : goal.invariant-loop-rule
invariant-loop-rule l = map view l.values.items ≡ map (rule_value l.config) (take l.rule-index l.rules)
