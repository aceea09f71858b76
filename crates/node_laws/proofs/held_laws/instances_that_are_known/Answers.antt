use Rattle.node_laws.proofs.Receiving.{known_from, known_in, known_tested}
use Rattle.node_laws.proofs.held_laws.instances_that_are_known.Goals as goal

pub returns-clause-listed : goal.returns-clause-listed
returns-clause-listed c = λ feed i. (known_from feed i, known_in feed i)

pub returns-clause-tested : goal.returns-clause-tested
returns-clause-tested c = known_tested
