use Rattle.std.proofs.Common.{◌≡◌, ◌++◌, drop, map}
use Rattle.inspect_changes.specs.Objects.{service_of}
use Rattle.inspect_changes.proofs.objects.push_services.Given as goal

abbrev pub invariant-loop-service : goal.invariant-loop-service
invariant-loop-service l = l.objects.items ++ map service_of (drop l.service-index l.services) ≡ l.initial.objects.items ++ map service_of l.services
