use Rattle.machine_laws.proofs.Final.{tables_are_compiled}
use Rattle.machine_laws.proofs.compiled_laws.tables_are_compiled.Goals as goal

pub returns : goal.returns
returns c = tables_are_compiled
