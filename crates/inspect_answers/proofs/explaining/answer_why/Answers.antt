use Rattle.std.proofs.Common.{rules, refl}
use Rattle.inspect_answers.proofs.TookReasons.{took_explained}
use Rattle.inspect_answers.proofs.explaining.answer_why.Goals as goal

pub returns-in_ok-write_why-in-Ok-clause-promise : goal.returns-in_ok-write_why-in-Ok-clause-promise
returns-in_ok-write_why-in-Ok-clause-promise g c = λ answers.
    let asked = c.in-Ok.field-0 in (
      refl,
      took_explained c.args.form c.args.octets.now asked.valid asked.packets _ _ c.in-Ok.ensures.read c.in-Ok.ensures.form.0 c.in-Ok.ensures.form.1 (search rules)
          (search rules),
    )
