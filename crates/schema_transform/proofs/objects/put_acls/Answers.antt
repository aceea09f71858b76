use Rattle.schema_transform.specs.Towards.{acl_towards}
use Rattle.schema_transform.proofs.Putting.{lists_go_on}
use Rattle.schema_transform.proofs.objects.put_acls.Goals as goal

pub loop-to-preserved : goal.loop-to-preserved
loop-to-preserved c =
    lists_go_on (acl_towards c.args.config.now c.args.from.now) c.as_slice-to-items.result.now c.loop-to.to-index c.to-item.result c.loop-to.low.entries _ _
    c.loop-to-test.true c.to-item.is c.in_ok-put_acl.ensures c.loop-to.invariant
