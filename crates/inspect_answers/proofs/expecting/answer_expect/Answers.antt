use Rattle.std.proofs.Common.{[]}
use Rattle.compile_answers.specs.Answers.{input_of}
use Rattle.inspect_answers.specs.Expectations.{expect_at}
use Rattle.inspect_answers.specs.InForm.{AreExpectedInForm}
use Rattle.inspect_answers.proofs.Formed.{are_in_form, where_answered}
use Rattle.inspect_answers.proofs.expecting.answer_expect.Goals as goal

pub returns-in-Ok-clause-in_form : goal.returns-in-Ok-clause-in_form
returns-in-Ok-clause-in_form g c =
    let asked = c.in-Ok.field-0 in
    where_answered c.write_expected.result (AreExpectedInForm c.args.octets.now)
    (are_in_form (expect_at []) (λ r. r.input.config) c.args.octets.now (record { input = input_of asked.valid; packets = asked.packets }) c.in-Ok.ensures.read
    c.in-Ok.ensures.form)
