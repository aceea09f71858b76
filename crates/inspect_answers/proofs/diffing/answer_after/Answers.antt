use Rattle.std.proofs.Common.{rules, []}
use Rattle.compile_answers.specs.Answers.{answer_good}
use Rattle.inspect_answers.specs.Changes.{TookDifferences}
use Rattle.inspect_answers.specs.Runs.{IsAnswered}
use Rattle.inspect_answers.specs.TwoRuns.{status_found}
use Rattle.inspect_answers.specs.declared.diffing.Comparison.{Comparison}
use Rattle.inspect_answers.proofs.Changed.{answered}
use Rattle.inspect_answers.proofs.Unfitting.{unfit_document}
use Rattle.inspect_answers.proofs.diffing.answer_after.Goals as goal

pub returns-in-Err-clause-which : goal.returns-in-Err-clause-which
returns-in-Err-clause-which g c =
    let alone = unfit_document c.in-Err.unfit c.args.after.now c.in-Err.ensures.unfit (λ x. answer_good []) in
    let said = c.write_unfit_after.ensures.given _ _ alone alone in
    search rules

pub returns-in-Ok-clause-promise : goal.returns-in-Ok-clause-promise
returns-in-Ok-clause-promise g c = λ first read.
    answered c.write_differences.result
    (λ (found : Comparison). TookDifferences c.args.form (status_found found) first c.args.after.now (g.K.Sink.taken c.args.sink.now) (g.K.Sink.taken c.write_differences.new.sink))
    (λ (found : Comparison). IsAnswered (status_found found))
    (c.write_differences.ensures.promise first c.args.after.now read c.in-Ok.ensures.read)
