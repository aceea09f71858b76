-- Sessions stand in the order of a round.
use Rattle.running_laws.proofs.Rounds.{sessions_named}
use Rattle.running_laws.proofs.Written.{pairs_placed}
use Rattle.running_laws.proofs.holding_laws.sessions_stand_in_the_order_of_a_round.Goals as goal

pub returns-clause-order : goal.returns-clause-order
returns-clause-order c = sessions_named

pub returns-clause-places : goal.returns-clause-places
returns-clause-places c = pairs_placed
