use Rattle.std.proofs.lemmas.Map.Views.{All-values-insert_entry}
use Rattle.transform_model.specs.Objects.{instance_cmp}
use Rattle.schema_transform.specs.Kept.{IsTable}
use Rattle.schema_transform.proofs.kept.keep_table.Goals as goal

pub returns : goal.returns
returns c =
    rw c.in_ok-insert.ensures.entries (All-values-insert_entry instance_cmp c.args.instance _
    (IsTable c.args.topology.now c.args.config.now) _ c.requires.kept c.in_ok-rows.ensures)
