use Rattle.control_wants.proofs.Fitting.{peers_fit, agents_fit}
use Rattle.control_wants.proofs.laws.what_is_wanted_can_be_told.Goals as goal

pub returns-clause-peers : goal.returns-clause-peers
returns-clause-peers c = peers_fit

pub returns-clause-agents : goal.returns-clause-agents
returns-clause-agents c = agents_fit
