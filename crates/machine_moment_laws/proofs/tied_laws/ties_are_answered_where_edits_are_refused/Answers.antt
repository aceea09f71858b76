use Rattle.machine_moment_laws.proofs.TiesKept.{refused_is}
use Rattle.machine_moment_laws.proofs.tied_laws.ties_are_answered_where_edits_are_refused.Goals as goal

pub returns : goal.returns
returns c = refused_is
