use Rattle.std.proofs.lemmas.List.{get_or_default}
use Rattle.transform_model.specs.Tables.{instance_table}
use Rattle.schema_transform.proofs.Putting.{tables_go_on}
use Rattle.schema_transform.proofs.agents.tables_of.Goals as goal

pub loop-instance-preserved : goal.loop-instance-preserved
loop-instance-preserved c =
    tables_go_on (instance_table c.args.topology.now c.args.config.now) c.args.instances.now
    c.loop-instance.instance-index _ c.loop-instance.rows.entries _ _ c.loop-instance-test.true
    (get_or_default c.args.instances.now c.loop-instance.instance-index _ _ c.loop-instance-test.true)
    c.in_ok-put_table.ensures c.loop-instance.invariant
