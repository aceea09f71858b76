use Rattle.reach_plain.proofs.Chains.{chain_rules_opposite}
use Rattle.reach_plain.proofs.laws.chains_are_passed_back.Goals as goal

pub returns : goal.returns
returns c = chain_rules_opposite
