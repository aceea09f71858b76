use Rattle.std.proofs.Common.{◌≡◌, drop}
use Rattle.std.specs.Prelude.{flat_map}
use Rattle.transform_model.specs.Objects.{acl_objects, with_objects}
use Rattle.schema_transform.proofs.objects.put_all_acls.Given as goal

abbrev pub invariant-loop-network : goal.invariant-loop-network
invariant-loop-network l =
    with_objects l.low.entries (flat_map (acl_objects l.config) (drop l.network-index l.network-items))
    ≡ with_objects l.fn.low.entries (flat_map (acl_objects l.config) l.config.networks)
