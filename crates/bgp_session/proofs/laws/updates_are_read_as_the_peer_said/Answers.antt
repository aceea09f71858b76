use Rattle.bgp_session.proofs.ReadingLemmas.{reads_as_said, updates_read, open_says}
use Rattle.bgp_session.proofs.laws.updates_are_read_as_the_peer_said.Goals as goal

pub returns-clause-sessions : goal.returns-clause-sessions
returns-clause-sessions c = reads_as_said

pub returns-clause-updates : goal.returns-clause-updates
returns-clause-updates c = updates_read

pub returns-clause-opens : goal.returns-clause-opens
returns-clause-opens c = open_says
