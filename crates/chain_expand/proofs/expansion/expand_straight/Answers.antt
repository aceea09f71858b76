use Rattle.chain_expand.proofs.Barren.{barren_first}
use Rattle.chain_expand.proofs.expansion.expand_straight.Goals as goal

pub append_hops-requires-clause-barren : goal.append_hops-requires-clause-barren
append_hops-requires-clause-barren c = barren_first c.args.config.now
