use Rattle.std.proofs.Common.{take}
use Rattle.chain_expand.specs.Links.{HasNamed}
use Rattle.chain_expand.proofs.links.row_of.Given as goal

abbrev pub invariant-loop-hop : goal.invariant-loop-hop
invariant-loop-hop l = HasNamed l.config (take l.hop-index l.hops) l.row
