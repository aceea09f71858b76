use Rattle.std.proofs.Common.{◌∙◌, ap, sym}
use Rattle.transform_model.specs.Objects.{acl_objects, with_objects}
use Rattle.schema_transform.proofs.Towards.{acls_are}
use Rattle.schema_transform.proofs.Putting.{lists_go_on}
use Rattle.schema_transform.proofs.objects.put_all_acls.Goals as goal

pub loop-network-preserved : goal.loop-network-preserved
loop-network-preserved c =
    lists_go_on (acl_objects c.args.config.now) c.as_slice-network-items.result.now c.loop-network.network-index c.network-item.result c.loop-network.low.entries _ _
    c.loop-network-test.true c.network-item.is (c.in_ok-put_acls.ensures
    ∙ ap (with_objects c.loop-network.low.entries) (sym (acls_are c.args.config.now c.network-item.result))) c.loop-network.invariant
