use Rattle.std.proofs.Common.{ℕ, List, ◌∙◌, subst}
use Rattle.std.specs.Io.KnownBytes.{Appends}
use Rattle.ov_io.specs.Inputs.{TookFront}
use Rattle.ov_io.proofs.PieceLemmas.{on_err}
use Rattle.inspect_answers.proofs.Unfitting.{document, is_answered, same_text, same_verdict}
use Rattle.inspect_answers.proofs.verdict.answer_unfit.Goals as goal

pub returns-in_err-reception-clause-front : goal.returns-in_err-reception-clause-front
returns-in_err-reception-clause-front g c = λ answer h.
    let unfit = c.args.unfit in
    on_err c.from_residual.result _
    (subst (λ (t : List ℕ). TookFront (g.K.Sink.taken c.args.sink.now) (g.K.Sink.taken c.write_unfit.new.sink) t) (same_text unfit answer h)
    (c.in_err-reception.ensures.front (document unfit answer) (is_answered unfit answer)))

pub returns-clause-given : goal.returns-clause-given
returns-clause-given g c = λ answer h.
    let unfit = c.args.unfit in
    let given = c.in_ok-reception.ensures.given (document unfit answer) (is_answered unfit answer) in
    record {
      is = c.verdict_of.ensures ∙ same_verdict unfit answer c.in_ok-reception.reception h given.is c.in_ok-reception.ensures.unfit;
      taken = subst (λ (t : List ℕ). Appends (g.K.Sink.taken c.args.sink.now) (g.K.Sink.taken c.write_unfit.new.sink) t) (same_text unfit answer h) given.taken;
    }
