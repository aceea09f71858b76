use Rattle.config_node.proofs.Changes.{fits_at}
use Rattle.config_node.proofs.planning.spell_all.Goals as goal

pub spell_low-requires : goal.spell_low-requires
spell_low-requires c =
    fits_at c.args.deltas.now c.loop-delta.delta-index c.delta-item.result c.loop-delta-test.true c.delta-item.is
    c.requires
