use Rattle.explanations.proofs.Counts.{columns_are_counted}
use Rattle.explanations.proofs.laws.columns_are_counted.Goals as goal

pub returns : goal.returns
returns c = columns_are_counted
