use Rattle.machine_moment_laws.proofs.numbers.rounds_are_few.Goals as goal

pub returns : goal.returns
returns c = λ size w in_time. in_time
