use Rattle.agent_node.proofs.Changes.{fits_at}
use Rattle.agent_node.proofs.planning.spell_all.Goals as goal

pub spell_up-requires : goal.spell_up-requires
spell_up-requires c =
    fits_at c.args.deltas.now c.loop-delta.delta-index c.delta-item.result c.loop-delta-test.true
    c.delta-item.is c.requires
