use Rattle.std.proofs.Common.{List, subst}
use Rattle.std.specs.Io.KnownBytes.{Appends}
use Rattle.config_types.specs.declared.edit.Edit.{Edit}
use Rattle.hitless_answers.specs.Answers.{input_of}
use Rattle.hitless_answers.specs.Judging.{judgements, standing_first}
use Rattle.hitless_answers.specs.FormLines.{hitless_in, lines_in}
use Rattle.hitless_answers.specs.Promise.{AllReadSo, AreSaidOf}
use Rattle.hitless_answers.proofs.answering.answer_hitless.Goals as goal

pub returns-in_ok-write_hitless-in-Ok-clause-promise : goal.returns-in_ok-write_hitless-in-Ok-clause-promise
unfolding hitless_in
returns-in_ok-write_hitless-in-Ok-clause-promise g c = λ good.
    let x = c.in-Ok.field-0.valid in
    let edits = c.in-Ok.field-0.edits in
    record {
      input = input_of x edits;
      read = c.in-Ok.ensures.read;
      valid = c.know_judgements.ensures.written;
      judgements = judgements edits (standing_first x);
      taken = subst (λ (es : List Edit). Appends (g.K.Sink.taken c.args.sink.now) (g.K.Sink.taken c.write_hitless.new.sink) (lines_in c.args.form 1 es (standing_first x) (judgements es (standing_first x))))
          c.as_slice-in-Ok.ensures c.in_ok-write_hitless-in-Ok.ensures.ok;
      said = subst (λ (es : List Edit). AreSaidOf (standing_first x) es (judgements es (standing_first x))) c.as_slice.ensures c.know_judgements.ensures.said;
      reads = subst (λ (es : List Edit). AllReadSo 1 es (standing_first x) (judgements es (standing_first x))) c.as_slice.ensures c.know_judgements.ensures.read;
    }
