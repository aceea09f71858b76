use Rattle.chain_expand.proofs.ExpandsLaws.{one_expansion}
use Rattle.chain_expand.proofs.laws.expands_to_one.Goals as goal

pub returns : goal.returns
returns c = λ config hops xs ys first second. one_expansion first ys second
