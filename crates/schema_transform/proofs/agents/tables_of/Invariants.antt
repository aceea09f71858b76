use Rattle.std.proofs.Common.{◌≡◌, drop}
use Rattle.std.specs.Prelude.{[], flat_map}
use Rattle.transform_model.specs.Tables.{instance_table, with_rows}
use Rattle.schema_transform.proofs.agents.tables_of.Given as goal

abbrev pub invariant-loop-instance : goal.invariant-loop-instance
invariant-loop-instance l =
    with_rows l.rows.entries (flat_map (instance_table l.topology l.config) (drop l.instance-index l.instances))
    ≡ with_rows [] (flat_map (instance_table l.topology l.config) l.instances)
