use Rattle.machine_laws.proofs.Written.{written_tables_are_compiled}
use Rattle.machine_laws.proofs.headline_laws.settled_networks_are_compiled.Goals as goal

pub returns : goal.returns
returns c = written_tables_are_compiled
