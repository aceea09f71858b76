use Rattle.std.proofs.Common.{◌∙◌}
use Rattle.schema_transform.proofs.ByAttached.{relations_are}
use Rattle.schema_transform.proofs.attached.are_related_among.Goals as goal

pub returns : goal.returns
returns c =
    c.are_related.ensures
    ∙ relations_are c.args.config.now c.args.attached.now c.args.network.now c.args.other.now c.requires
