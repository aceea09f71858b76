use Rattle.std.proofs.Common.{[]}
use Rattle.config_model.specs.Input.{compile_at}
use Rattle.compile_answers.specs.Answers.{input_of}
use Rattle.inspect_answers.proofs.Formed.{are_in_form}
use Rattle.inspect_answers.proofs.idle_answer.answer_unused.Goals as goal

pub returns-in_ok-write_idle-in-Ok-clause-in_form : goal.returns-in_ok-write_idle-in-Ok-clause-in_form
returns-in_ok-write_idle-in-Ok-clause-in_form g c = λ answers.
    are_in_form (compile_at []) (λ p. p.config) c.args.octets.now (input_of c.in-Ok.valid) c.in-Ok.ensures.read c.in_ok-write_idle-in-Ok.ensures.form
