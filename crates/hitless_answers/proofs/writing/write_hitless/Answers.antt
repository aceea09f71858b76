use Rattle.std.proofs.Common.{subst}
use Rattle.std.specs.Prelude.{OnErr, OnOk}
use Rattle.std.specs.Io.KnownBytes.{Appends}
use Rattle.ov_io.specs.Inputs.{TookFront}
use Rattle.hitless_answers.specs.Judging.{Standing, judgements}
use Rattle.hitless_answers.specs.FormLines.{hitless_in, lines_in}
use Rattle.hitless_answers.proofs.writing.write_hitless.Goals as goal

pub returns-clause-ok : goal.returns-clause-ok
unfolding hitless_in
returns-clause-ok g c =
    subst (λ (s : Standing). OnOk c.write_edits.result (Appends (g.K.Sink.taken c.args.sink.now) (g.K.Sink.taken c.write_edits.new.sink) (lines_in c.args.form 1 c.args.edits.now s (judgements c.args.edits.now s))))
    c.in_ok-judge.ensures c.write_edits.ensures.ok

pub returns-clause-front : goal.returns-clause-front
unfolding hitless_in
returns-clause-front g c =
    subst (λ (s : Standing). OnErr c.write_edits.result (TookFront (g.K.Sink.taken c.args.sink.now) (g.K.Sink.taken c.write_edits.new.sink) (lines_in c.args.form 1 c.args.edits.now s (judgements c.args.edits.now s))))
    c.in_ok-judge.ensures c.write_edits.ensures.front
