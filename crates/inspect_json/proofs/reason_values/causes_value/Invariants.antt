use Rattle.std.proofs.Common.{◌≡◌, map, take}
use Rattle.serde_json.specs.View.{view}
use Rattle.inspect_json.specs.ReasonValues.{cause_value}
use Rattle.inspect_json.proofs.reason_values.causes_value.Given as goal

abbrev pub invariant-loop-cause : goal.invariant-loop-cause
invariant-loop-cause l = map view l.values.items ≡ map cause_value (take l.cause-index l.causes)
