use Rattle.machine_laws.proofs.Refused.{keeps_what_is_not_refused}
use Rattle.machine_laws.proofs.isolation_laws.what_is_refused_changes_nothing.Goals as goal

pub returns : goal.returns
returns c = keeps_what_is_not_refused
