use Rattle.chain_expand.proofs.TwiceLaw.{twice_names_the_service}
use Rattle.chain_expand.proofs.laws.twice_names_the_service.Goals as goal

pub returns : goal.returns
returns c = twice_names_the_service
