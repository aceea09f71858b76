use Rattle.reach_plain.proofs.Becoming.{outcome_iff}
use Rattle.reach_plain.proofs.laws.outcomes_are_as_described.Goals as goal

pub returns : goal.returns
returns c = outcome_iff
