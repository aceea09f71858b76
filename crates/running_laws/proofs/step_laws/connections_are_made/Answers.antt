use Rattle.running_laws.proofs.Connections.{connections_are_made, earlier_connections, near_is_earlier, nothing_is_connected}
use Rattle.running_laws.proofs.Given.{given}
use Rattle.running_laws.proofs.step_laws.connections_are_made.Goals as goal

pub returns-clause-made : goal.returns-clause-made
returns-clause-made c = connections_are_made given

pub returns-clause-nothing : goal.returns-clause-nothing
returns-clause-nothing c = nothing_is_connected given

pub returns-clause-events : goal.returns-clause-events
returns-clause-events c = earlier_connections given

pub returns-clause-earlier : goal.returns-clause-earlier
returns-clause-earlier c = near_is_earlier given
