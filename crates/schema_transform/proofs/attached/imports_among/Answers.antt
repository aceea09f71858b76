use Rattle.std.proofs.Common.{◌∙◌}
use Rattle.schema_transform.proofs.ByAttached.{imports_are}
use Rattle.schema_transform.proofs.attached.imports_among.Goals as goal

pub returns : goal.returns
returns c =
    c.imports.ensures
    ∙ imports_are c.args.config.now c.args.attached.now c.args.network.now c.args.other.now c.requires
