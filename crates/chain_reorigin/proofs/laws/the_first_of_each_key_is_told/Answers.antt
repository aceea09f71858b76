use Rattle.vpn_tables.specs.NodeModel.Reaching.{reoriginated_paths}
use Rattle.chain_reorigin.proofs.First.{exactly_first, told_in_order}
use Rattle.chain_reorigin.proofs.laws.the_first_of_each_key_is_told.Goals as goal

pub returns-clause-exactly : goal.returns-clause-exactly
returns-clause-exactly c = λ h key route. exactly_first (reoriginated_paths h) key route

pub returns-clause-ascending : goal.returns-clause-ascending
returns-clause-ascending c = λ h. told_in_order (reoriginated_paths h)
