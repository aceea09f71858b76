use Rattle.top_call.proofs.Sameness.{same_is_one}
use Rattle.top_call.proofs.scenario_laws.outcomes_that_are_one.Goals as goal

pub returns : goal.returns
returns c = same_is_one
