-- Places have sessions, and sessions places.
use Rattle.running_laws.proofs.Written.{has_session, names_differ, place_without_session, session_without_place, sessions_found}
use Rattle.running_laws.proofs.holding_laws.places_and_sessions_belong_together.Goals as goal

pub returns-clause-places : goal.returns-clause-places
returns-clause-places c = has_session

pub returns-clause-sessions : goal.returns-clause-sessions
returns-clause-sessions c = sessions_found

pub returns-clause-none : goal.returns-clause-none
returns-clause-none c = λ w written numbers seats are has a b. (session_without_place w written numbers seats are has a b, place_without_session w written numbers seats are has a b)

pub returns-clause-two : goal.returns-clause-two
returns-clause-two c = names_differ
