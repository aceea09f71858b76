use Rattle.running_laws.proofs.Asked.{no_session, sessions_said}
use Rattle.running_laws.proofs.Closed.{closed_sessions_may_connect, nothing_waits_at_closed_ends}
use Rattle.running_laws.proofs.Given.{given}
use Rattle.running_laws.proofs.step_laws.places_say_what_sessions_are.Goals as goal

pub returns-clause-said : goal.returns-clause-said
returns-clause-said c = sessions_said given

pub returns-clause-none : goal.returns-clause-none
returns-clause-none c = no_session given

pub returns-clause-closed : goal.returns-clause-closed
returns-clause-closed c = nothing_waits_at_closed_ends given

pub returns-clause-connects : goal.returns-clause-connects
returns-clause-connects c = closed_sessions_may_connect given
