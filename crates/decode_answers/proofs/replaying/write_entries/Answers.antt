use Rattle.std.proofs.Common.{◌≡◌, ◌+◌, List, [], ◌∷◌, drop, subst, ◌∙◌, arith}
use Rattle.std.specs.List.{AllByRecursion}
use Rattle.std.proofs.lemmas.Grind.{common_steps}
use Rattle.ov_io.proofs.PieceLemmas.{on_err, took_nothing}
use Rattle.decode_answers.specs.declared.entry.LogEntry.{LogEntry}
use Rattle.decode_answers.specs.Entries.{HasEntryForm}
use Rattle.decode_answers.proofs.LogTelling.{told_more, told_on, told_stops, told_whole, told_cut}
use Rattle.decode_answers.proofs.replaying.write_entries.Goals as goal

pub returns-in_err-push_entry-clause-front : goal.returns-in_err-push_entry-clause-front
returns-in_err-push_entry-clause-front g c =
    on_err c.from_residual.result _ (told_stops _ _ _ _ _ _ _ _ c.loop-index.invariant.form c.loop-index.invariant.so (took_nothing _ _))

pub returns-in_err-write_piece-clause-front : goal.returns-in_err-write_piece-clause-front
returns-in_err-write_piece-clause-front g c =
    let i = c.loop-index.index in
    let log = c.args.log.now in
    let split : drop i log ≡ c.index-log-index.result ∷ drop (i + 1) log = grind (arith, common_steps) in
    on_err c.from_residual-in_err-write_piece.result _
    (told_stops _ _ _ _ _ _ _ _ (subst (AllByRecursion HasEntryForm) split c.loop-index.invariant.form).1
    (told_more log (drop i log) (drop (i + 1) log) _ _ _ _ _ _ _ _ split c.loop-index.invariant.so c.in_ok-push_entry.ensures)
    c.in_err-write_piece.ensures.front)

pub loop-index-preserved : goal.loop-index-preserved
loop-index-preserved g c =
    let i = c.loop-index.index in
    let log = c.args.log.now in
    let split : drop i log ≡ c.index-log-index.result ∷ drop (i + 1) log = grind (arith, common_steps) in
    record {
      so = told_on _ _ _ _ _ _ _ _ _
          (told_more log (drop i log) (drop (i + 1) log) _ _ _ _ _ _ _ _ split c.loop-index.invariant.so c.in_ok-push_entry.ensures)
          c.in_ok-write_piece.ensures.ok;
      form = (subst (AllByRecursion HasEntryForm) split c.loop-index.invariant.form).1;
      kept = c.in_ok-write_piece.ensures.cause ∙ c.loop-index.invariant.kept;
    }

pub returns-clause-ok : goal.returns-clause-ok
returns-clause-ok g c =
    told_whole c.write_gathered.result c.args.log.now (drop c.loop-index.index c.args.log.now) _ _ _ _ _ _ (grind (arith, common_steps))
    c.loop-index.invariant.so c.write_gathered.ensures.ok

pub returns-clause-front : goal.returns-clause-front
returns-clause-front g c =
    told_cut c.write_gathered.result _ _ _ _ _ _ _ _ c.loop-index.invariant.form c.loop-index.invariant.so c.write_gathered.ensures.front
