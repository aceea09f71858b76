use Rattle.std.proofs.Common.{◌≡◌, drop}
use Rattle.std.specs.Prelude.{flat_map}
use Rattle.transform_model.specs.Objects.{with_objects}
use Rattle.schema_transform.specs.Towards.{acl_towards}
use Rattle.schema_transform.proofs.objects.put_acls.Given as goal

abbrev pub invariant-loop-to : goal.invariant-loop-to
invariant-loop-to l =
    with_objects l.low.entries (flat_map (acl_towards l.config l.from) (drop l.to-index l.to-items))
    ≡ with_objects l.fn.low.entries (flat_map (acl_towards l.config l.from) l.config.networks)
