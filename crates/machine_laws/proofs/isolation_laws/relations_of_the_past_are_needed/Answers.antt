use Rattle.machine_laws.proofs.Past.{not_present}
use Rattle.machine_laws.proofs.isolation_laws.relations_of_the_past_are_needed.Goals as goal

pub returns : goal.returns
returns c = not_present
