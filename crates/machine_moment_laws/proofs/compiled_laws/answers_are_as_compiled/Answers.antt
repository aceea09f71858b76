use Rattle.machine_moment_laws.proofs.AsCompiled.{as_compiled}
use Rattle.machine_moment_laws.proofs.compiled_laws.answers_are_as_compiled.Goals as goal

pub returns : goal.returns
returns c = as_compiled
