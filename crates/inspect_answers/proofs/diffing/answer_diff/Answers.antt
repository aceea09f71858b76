use Rattle.std.proofs.Common.{rules, []}
use Rattle.compile_answers.specs.Answers.{answer_good}
use Rattle.inspect_answers.proofs.Unfitting.{unfit_document}
use Rattle.inspect_answers.proofs.diffing.answer_diff.Goals as goal

pub returns-in-Err-clause-which : goal.returns-in-Err-clause-which
returns-in-Err-clause-which g c =
    let alone = unfit_document c.in-Err.unfit c.args.before.now c.in-Err.ensures.unfit (λ x. answer_good []) in
    let said = c.write_unfit_before.ensures.given _ _ alone alone in
    search rules
