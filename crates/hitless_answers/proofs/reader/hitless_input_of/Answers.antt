use Rattle.std.proofs.Common.{refl}
use Rattle.std.proofs.lemmas.Result.{err_from_is_err_and}
use Rattle.config_model.proofs.Counts.{fails_through}
use Rattle.hitless_answers.specs.Reading.{hitless_at}
use Rattle.hitless_answers.proofs.reader.hitless_input_of.Goals as goal

pub returns-in_err-check_others-clause-reads : goal.returns-in_err-check_others-clause-reads
unfolding hitless_at
returns-in_err-check_others-clause-reads c =
    let p = err_from_is_err_and c.from_residual-in_err-check_others.result c.from_residual-in_err-check_others.ensures.1 in
    rw (p.1, p.2, c.in_ok-members.ensures, c.in_ok-topology.ensures.reads, c.in_ok-config.ensures.reads, c.in_ok-edits.ensures.reads) (fails_through c.in_err-check_others.field-0.0 _ _ c.in_err-check_others.ensures)

pub returns-clause-reads : goal.returns-clause-reads
unfolding hitless_at
returns-clause-reads c = rw (c.in_ok-members.ensures, c.in_ok-topology.ensures.reads, c.in_ok-config.ensures.reads, c.in_ok-edits.ensures.reads, c.in_ok-check_others.ensures) refl
