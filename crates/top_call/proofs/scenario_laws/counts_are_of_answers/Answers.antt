use Rattle.top_call.proofs.Counted.{counts_answers}
use Rattle.top_call.proofs.scenario_laws.counts_are_of_answers.Goals as goal

pub returns : goal.returns
returns c = counts_answers
