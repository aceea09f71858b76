use Rattle.std.proofs.Common.{sym, ◌∙◌, arith}
use Rattle.ov_io.proofs.PieceLemmas.{on_err}
use Rattle.decode_answers.proofs.Telling.{moved_all, moved_on, nothing_reported, report_cut, report_whole, told_all, told_end, told_on, told_stops}
use Rattle.decode_answers.proofs.decoding.write_report.Goals as goal

pub returns-in_err-known-clause-front : goal.returns-in_err-known-clause-front
returns-in_err-known-clause-front g c =
    on_err _ _ (nothing_reported _ c.args.octets.now (λ k. omega (arith, c.type_inv.octets k)))

pub returns-in_err-first-clause-front : goal.returns-in_err-first-clause-front
returns-in_err-first-clause-front g c =
    on_err _ _ (told_stops _ _ c.loop-rest.rest.now _ _ _ _ c.loop-rest.invariant.so c.in_err-first.ensures.front)

pub returns-in_default-clause-ok : goal.returns-in_default-clause-ok
returns-in_default-clause-ok g c =
    let all = moved_all _ c.loop-rest.rest.now _ _ _ _ _ c.in_default.is c.in_ok-first.ensures.told in
    report_whole c.write_gathered.result _ _ _ _ _ (told_all _ _ c.loop-rest.rest.now _ _ _ _ _ c.loop-rest.invariant.so all) c.write_gathered.ensures.ok

pub returns-in_default-clause-front : goal.returns-in_default-clause-front
returns-in_default-clause-front g c =
    let all = moved_all _ c.loop-rest.rest.now _ _ _ _ _ c.in_default.is c.in_ok-first.ensures.told in
    report_cut c.write_gathered.result _ _ _ _ _ (told_all _ _ c.loop-rest.rest.now _ _ _ _ _ c.loop-rest.invariant.so all) c.write_gathered.ensures.front

pub loop-rest-preserved : goal.loop-rest-preserved
loop-rest-preserved g c =
    let step = moved_on _ c.loop-rest.rest.now _ _ _ _ c.in-Some.first _ c.in-Some.is c.in_ok-first.ensures.told in
    record {
      so = told_on _ _ c.loop-rest.rest.now _ _ _ _ _ _ c.in-Some.first c.loop-rest.invariant.so step c.split_at.ensures.back;
      kept = c.in_ok-first.ensures.cause ∙ c.loop-rest.invariant.kept;
    }

pub returns-clause-ok : goal.returns-clause-ok
returns-clause-ok g c =
    report_whole c.write_gathered-2.result _ _ _ _ _
    (told_end _ _ c.loop-rest.rest.now _ _ _ c.loop-rest.invariant.so (sym c.is_empty.ensures ∙ c.loop-rest-test.false)) c.write_gathered-2.ensures.ok

pub returns-clause-front : goal.returns-clause-front
returns-clause-front g c =
    report_cut c.write_gathered-2.result _ _ _ _ _
    (told_end _ _ c.loop-rest.rest.now _ _ _ c.loop-rest.invariant.so (sym c.is_empty.ensures ∙ c.loop-rest-test.false)) c.write_gathered-2.ensures.front
