use Rattle.std.proofs.Common.{sym, subst}
use Rattle.std.specs.Prelude.{IfOk}
use Rattle.inspect_answers.specs.Answers.{IsAnswer}
use Rattle.inspect_answers.specs.Runs.{Keeps, status_of}
use Rattle.inspect_answers.specs.declared.asked.Asked.{Asked}
use Rattle.inspect_answers.proofs.Taken.{expected_kept}
use Rattle.inspect_answers.proofs.Told.{ways_kept}
use Rattle.inspect_answers.proofs.TookIdle.{unused_kept}
use Rattle.inspect_answers.proofs.answering.answer.Goals as goal

pub returns-in-Ways-clause-promise : goal.returns-in-Ways-clause-promise
returns-in-Ways-clause-promise g c =
    subst (λ (asked : Asked). IfOk c.answer_ways.result (λ verdict. IsAnswer verdict
    → Keeps asked (status_of verdict) c.args.octets.now (g.K.Sink.taken c.args.sink.now) (g.K.Sink.taken c.answer_ways.new.sink))) (sym c.in-Ways.is)
    (ways_kept c.answer_ways.result c.in-Ways.form c.in-Ways.pairs c.args.octets.now (g.K.Sink.taken c.args.sink.now) (g.K.Sink.taken c.answer_ways.new.sink)
    c.answer_ways.ensures.given c.answer_ways.ensures.in_form)

pub returns-in-Expect-clause-promise : goal.returns-in-Expect-clause-promise
returns-in-Expect-clause-promise g c =
    subst (λ (asked : Asked). IfOk c.answer_expect.result (λ verdict. IsAnswer verdict
    → Keeps asked (status_of verdict) c.args.octets.now (g.K.Sink.taken c.args.sink.now) (g.K.Sink.taken c.answer_expect.new.sink))) (sym c.in-Expect.is)
    (expected_kept c.answer_expect.result c.in-Expect.form c.args.octets.now (g.K.Sink.taken c.args.sink.now) (g.K.Sink.taken c.answer_expect.new.sink)
    c.answer_expect.ensures.given c.answer_expect.ensures.in_form)

pub returns-in-Unused-clause-promise : goal.returns-in-Unused-clause-promise
returns-in-Unused-clause-promise g c =
    subst (λ (asked : Asked). IfOk c.answer_unused.result (λ verdict. IsAnswer verdict
    → Keeps asked (status_of verdict) c.args.octets.now (g.K.Sink.taken c.args.sink.now) (g.K.Sink.taken c.answer_unused.new.sink))) (sym c.in-Unused.is)
    (unused_kept c.answer_unused.result c.in-Unused.form c.args.octets.now (g.K.Sink.taken c.args.sink.now) (g.K.Sink.taken c.answer_unused.new.sink)
    c.answer_unused.ensures.given c.answer_unused.ensures.in_form)
