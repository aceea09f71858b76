use Rattle.machine_laws.proofs.Rounding.{breaks_unasked, settled_at_ease}
use Rattle.machine_laws.proofs.round_laws.settled_moments_are_at_ease.Goals as goal

pub returns-clause-sessions : goal.returns-clause-sessions
returns-clause-sessions c = settled_at_ease

pub returns-clause-breaks : goal.returns-clause-breaks
returns-clause-breaks c = breaks_unasked
