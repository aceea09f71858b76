use Rattle.std.proofs.lemmas.List.Sorted.{Contains-permutation, IsPermutation-sym}
use Rattle.packet_trace.proofs.Orders.{same_hops, same_outcome, two_agents}
use Rattle.packet_trace.proofs.laws.the_order_of_agents_does_not_matter.Goals as goal

pub returns-clause-outcome : goal.returns-clause-outcome
returns-clause-outcome c = λ agents others p same apart once. same_outcome agents others same apart p once

pub returns-clause-hops : goal.returns-clause-hops
returns-clause-hops c = λ agents others p same apart once. same_hops agents others same apart p once

pub returns-clause-orders : goal.returns-clause-orders
returns-clause-orders c = λ agents others moved f. (
  Contains-permutation agents others f moved,
  Contains-permutation others agents f (IsPermutation-sym agents others moved),
)

pub returns-clause-met : goal.returns-clause-met
returns-clause-met c = λ f g port apart none. two_agents f g port apart none
