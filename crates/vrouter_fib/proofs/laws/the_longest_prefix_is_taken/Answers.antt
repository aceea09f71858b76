use Rattle.vrouter_fib.proofs.LongestLemmas.{longest_is, the_longest, none_contains, silent_none}
use Rattle.vrouter_fib.proofs.laws.the_longest_prefix_is_taken.Goals as goal

pub returns-clause-taken : goal.returns-clause-taken
returns-clause-taken c = λ a routes route h. longest_is a routes route h

pub returns-clause-exactly : goal.returns-clause-exactly
returns-clause-exactly c = λ a routes route table. (longest_is a routes route, the_longest routes a route table)

pub returns-clause-none : goal.returns-clause-none
returns-clause-none c = λ a routes. (none_contains a routes, silent_none a routes)
