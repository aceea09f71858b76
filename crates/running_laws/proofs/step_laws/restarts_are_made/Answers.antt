use Rattle.running_laws.proofs.Restarted.{nothing_is_restarted, restarts_are_made}
use Rattle.running_laws.proofs.Given.{given}
use Rattle.running_laws.proofs.step_laws.restarts_are_made.Goals as goal

pub returns-clause-made : goal.returns-clause-made
returns-clause-made c = restarts_are_made given

pub returns-clause-nothing : goal.returns-clause-nothing
returns-clause-nothing c = nothing_is_restarted given
