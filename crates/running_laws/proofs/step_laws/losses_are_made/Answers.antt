use Rattle.running_laws.proofs.Lost.{losses_are_made, nothing_is_lost}
use Rattle.running_laws.proofs.Given.{given}
use Rattle.running_laws.proofs.step_laws.losses_are_made.Goals as goal

pub returns-clause-made : goal.returns-clause-made
returns-clause-made c = losses_are_made given

pub returns-clause-nothing : goal.returns-clause-nothing
returns-clause-nothing c = nothing_is_lost given
