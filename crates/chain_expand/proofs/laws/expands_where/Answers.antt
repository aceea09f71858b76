use Rattle.chain_expand.proofs.OkLaws.{ok_where}
use Rattle.chain_expand.proofs.laws.expands_where.Goals as goal

pub returns : goal.returns
returns c = ok_where
