use Rattle.transform_model.specs.Objects.{circuit_objects}
use Rattle.schema_transform.specs.HeldUses.{use_of}
use Rattle.schema_transform.proofs.Putting.{objects_go_on}
use Rattle.schema_transform.proofs.objects.put_all_circuits.Goals as goal

pub loop-found-preserved : goal.loop-found-preserved
loop-found-preserved c =
    objects_go_on (circuit_objects c.args.topology.now) use_of c.args.chain_uses.now c.loop-found.found-index c.found-item.result _ _ _
    c.loop-found-test.true c.found-item.is c.in_ok-put_use_circuits.ensures c.loop-found.invariant
