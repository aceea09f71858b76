use Rattle.chain_expand.proofs.ExpandsLaws.{expansion_expands}
use Rattle.chain_expand.proofs.laws.expands_by_hops.Goals as goal

pub returns : goal.returns
returns c = expansion_expands
