use Rattle.config_check.proofs.Circuits.{circuits_iff}
use Rattle.config_check.proofs.laws.circuits_take_two_blocks.Goals as goal

pub returns : goal.returns
returns c = circuits_iff
