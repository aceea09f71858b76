use Rattle.std.proofs.Common.{◌≡◌, drop}
use Rattle.std.specs.Prelude.{map}
use Rattle.transform_model.specs.Objects.{instance_object, with_objects}
use Rattle.schema_transform.proofs.objects.put_instances.Given as goal

abbrev pub invariant-loop-network : goal.invariant-loop-network
invariant-loop-network l =
    with_objects l.low.entries (map (instance_object l.config) (drop l.network-index l.config.networks))
    ≡ with_objects l.fn.low.entries (map (instance_object l.config) l.config.networks)
