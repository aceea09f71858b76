use Rattle.std.proofs.Common.{refl}
use Rattle.machine_moment_laws.proofs.numbers.a_control_node_shows_its_tables.Goals as goal

pub returns : goal.returns
returns c = λ y c a member answers. answers.0 c member refl
