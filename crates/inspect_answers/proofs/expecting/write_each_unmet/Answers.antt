use Rattle.std.proofs.Common.{◌≡◌, ◌+◌, ◌∷◌, [], drop, cond, not, ap, sym, ◌∙◌, arith}
use Rattle.std.proofs.lemmas.List.Sums.{sum_by-cons}
use Rattle.ov_io.proofs.PieceLemmas.{on_err, way_breaks, way_goes_on}
use Rattle.compile_answers.proofs.LineLemmas.{drop_at}
use Rattle.inspect_answers.specs.Expecting.{comes_so, unmet_count, unmet_from}
use Rattle.inspect_answers.proofs.Counting.{one_alone}
use Rattle.inspect_answers.proofs.expecting.write_each_unmet.Goals as goal

pub returns-in_err-count-clause-front : goal.returns-in_err-count-clause-front
returns-in_err-count-clause-front g c =
    let i = c.loop-index.index in
    let left = drop_at c.args.packets.now i c.index-packets-index.result c.loop-index-test.true c.index-packets-index.is in
    on_err c.from_residual.result _ (way_breaks _ _ _ _ _ _ _ _ c.loop-index.invariant.way
    (ap (unmet_from c.args.form c.args.valid.now.config (i + 1)) left) c.in_err-count.ensures.front)

pub loop-index-preserved : goal.loop-index-preserved
loop-index-preserved g c =
    let i = c.loop-index.index in
    let config = c.args.valid.now.config in
    let item = c.index-packets-index.result in
    let rest = drop (i + 1) c.args.packets.now in
    let left = drop_at c.args.packets.now i item c.loop-index-test.true c.index-packets-index.is in
    let more : unmet_count config (drop i c.args.packets.now) ≡ unmet_count config (item ∷ []) + unmet_count config rest =
    ap (unmet_count config) left ∙ sum_by-cons (λ e. cond (not (comes_so config e)) 1 0) item rest
    ∙ ap (λ n. n + unmet_count config rest) (sym (one_alone config item)) in
    record {
      way = way_goes_on _ _ _ _ _ _ _ _ _ c.loop-index.invariant.way (ap (unmet_from c.args.form config (i + 1)) left) c.in_ok-count.ensures.ok;
      count = omega (arith, more, c.loop-index.invariant.count, c.in_ok-count.ensures.count);
      few = omega (arith, c.loop-index.invariant.few, c.in_ok-count.ensures.one);
      kept = c.in_ok-count.ensures.cause ∙ c.loop-index.invariant.kept;
    }
