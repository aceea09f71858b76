use Rattle.std.proofs.Common.{ap, ◌∙◌}
use Rattle.std.specs.Prelude.{flat_map}
use Rattle.ov_io.proofs.PieceLemmas.{on_err, way_breaks, way_goes_on}
use Rattle.compile_answers.proofs.LineLemmas.{drop_at}
use Rattle.hitless_answers.proofs.writing.write_each.Goals as goal

pub returns-in_err-write_one-clause-front : goal.returns-in_err-write_one-clause-front
returns-in_err-write_one-clause-front g c =
    let left = drop_at c.args.items.now c.loop-item.item-index c.item-item.result c.loop-item-test.true c.item-item.is in
    on_err c.from_residual.result _ (way_breaks _ _ _ _ _ _ _ _ c.loop-item.invariant.way
    (ap (flat_map (g.W.LinesOf.lines c.args.lines.now)) left) c.in_err-write_one.ensures.front)

pub loop-item-preserved : goal.loop-item-preserved
loop-item-preserved g c =
    let left = drop_at c.args.items.now c.loop-item.item-index c.item-item.result c.loop-item-test.true c.item-item.is in
    record {
      way = way_goes_on _ _ _ _ _ _ _ _ _ c.loop-item.invariant.way (ap (flat_map (g.W.LinesOf.lines c.args.lines.now)) left) c.in_ok-write_one.ensures.ok;
      kept = c.in_ok-write_one.ensures.cause ∙ c.loop-item.invariant.kept;
    }
