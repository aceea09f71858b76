use Rattle.transform_model.specs.NodeModel.Agent.{needed_for}
use Rattle.schema_transform.proofs.Putting.{needs_go_on}
use Rattle.schema_transform.proofs.agents.needed_by.Goals as goal

pub loop-object-preserved : goal.loop-object-preserved
loop-object-preserved c =
    needs_go_on (λ e. needed_for e.1) c.args.slice.now c.loop-object.object-index c.object-item.result _ _ _
    c.loop-object-test.true c.object-item.is c.in_ok-put_needed_for.ensures c.loop-object.invariant
