use Rattle.machine_laws.proofs.Untied.{not_without}
use Rattle.machine_laws.proofs.isolation_laws.ties_are_needed.Goals as goal

pub returns : goal.returns
returns c = not_without
