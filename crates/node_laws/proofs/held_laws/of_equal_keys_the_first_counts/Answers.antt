use Rattle.node_laws.proofs.Counting.{counted_is, nothing_but_routes}
use Rattle.node_laws.proofs.held_laws.of_equal_keys_the_first_counts.Goals as goal

pub returns-clause-exactly : goal.returns-clause-exactly
returns-clause-exactly c = counted_is

pub returns-clause-alone : goal.returns-clause-alone
returns-clause-alone c = nothing_but_routes
