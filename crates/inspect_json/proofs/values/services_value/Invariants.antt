use Rattle.std.proofs.Common.{◌≡◌, map, take}
use Rattle.serde_json.specs.View.{view}
use Rattle.inspect_json.specs.Values.{service_value}
use Rattle.inspect_json.proofs.values.services_value.Given as goal

abbrev pub invariant-loop-service : goal.invariant-loop-service
invariant-loop-service l = map view l.values.items ≡ map (service_value l.config) (take l.service-index l.services)
