use Rattle.std.proofs.Common.{◌≡◌, drop}
use Rattle.std.specs.List.{filter_map}
use Rattle.std.specs.Prelude.{◌++◌}
use Rattle.transform_model.specs.Objects.{hop_of}
use Rattle.schema_transform.proofs.objects.hops_of.Given as goal

abbrev pub invariant-loop-service : goal.invariant-loop-service
invariant-loop-service l =
    l.hops ++ filter_map (hop_of l.topology) (drop l.service-index l.services)
    ≡ filter_map (hop_of l.topology) l.services
