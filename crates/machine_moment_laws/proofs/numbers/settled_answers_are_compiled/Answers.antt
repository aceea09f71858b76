use Rattle.machine_moment_laws.proofs.numbers.settled_answers_are_compiled.Goals as goal

pub returns : goal.returns
returns c = λ x es answered compiled place e a stands settled. compiled.settled place e a stands settled
