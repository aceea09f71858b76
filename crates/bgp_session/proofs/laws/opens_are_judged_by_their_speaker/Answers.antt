use Rattle.bgp_session.proofs.InputLemmas.{right_open, other_system, other_identifier}
use Rattle.bgp_session.proofs.laws.opens_are_judged_by_their_speaker.Goals as goal

pub returns-clause-right : goal.returns-clause-right
returns-clause-right c = right_open

pub returns-clause-other_system : goal.returns-clause-other_system
returns-clause-other_system c = other_system

pub returns-clause-other_identifier : goal.returns-clause-other_identifier
returns-clause-other_identifier c = other_identifier
