use Rattle.std.proofs.Common.{refl}
use Rattle.machine_moment_laws.proofs.numbers.an_agent_shows_its_rows.Goals as goal

pub returns : goal.returns
returns c = λ y n a member answers. answers.1 n member refl
