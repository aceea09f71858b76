use Rattle.std.proofs.Common.{◌∙◌}
use Rattle.schema_transform.specs.ByNumber.{use_in}
use Rattle.schema_transform.proofs.ByNumber.{table_made}
use Rattle.schema_transform.proofs.rows.table_of.Goals as goal

pub returns : goal.returns
returns c =
    c.from_vec.ensures
    ∙ table_made c.args.topology.now c.args.config.now c.args.instance (use_in c.args.numbered.now.entries) _ _ _ c.requires.sound
    c.requires.uses c.new-rows.ensures.items c.in_ok-push_numbered_rows.ensures c.in_ok-push_use_rows.ensures
