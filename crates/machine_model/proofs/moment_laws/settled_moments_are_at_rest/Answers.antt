use Rattle.machine_model.proofs.AtRest.{settled_is_at_rest}
use Rattle.machine_model.proofs.moment_laws.settled_moments_are_at_rest.Goals as goal

pub returns : goal.returns
returns c = settled_is_at_rest
