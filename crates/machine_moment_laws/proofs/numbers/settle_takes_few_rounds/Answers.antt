use Rattle.machine_moment_laws.proofs.Promising.{few_rounds}
use Rattle.machine_moment_laws.proofs.numbers.settle_takes_few_rounds.Goals as goal

pub returns : goal.returns
returns c = few_rounds
