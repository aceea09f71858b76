use Rattle.node_routes.proofs.Writable.{among_all, of_routes}
use Rattle.node_routes.proofs.laws.differences_can_be_written.Goals as goal

pub returns-clause-among_all : goal.returns-clause-among_all
returns-clause-among_all c = among_all

pub returns-clause-of_routes : goal.returns-clause-of_routes
returns-clause-of_routes c = of_routes
