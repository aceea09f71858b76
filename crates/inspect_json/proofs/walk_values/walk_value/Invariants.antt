use Rattle.std.proofs.Common.{◌≡◌, map, take}
use Rattle.serde_json.specs.View.{view}
use Rattle.inspect_json.specs.WalkValues.{step_value}
use Rattle.inspect_json.proofs.walk_values.walk_value.Given as goal

abbrev pub invariant-loop-step : goal.invariant-loop-step
invariant-loop-step l = map view l.values.items ≡ map step_value (take l.step-index l.walk)
