use Rattle.std.proofs.Common.{ap, ◌∙◌}
use Rattle.std.specs.Prelude.{flat_map}
use Rattle.ov_io.proofs.PieceLemmas.{on_err, way_breaks, way_goes_on}
use Rattle.compile_answers.proofs.LineLemmas.{drop_at}
use Rattle.inspect_json.specs.WayLines.{pair_in}
use Rattle.inspect_answers.proofs.writing.write_network.Goals as goal

pub returns-in_err-write_pair-clause-front : goal.returns-in_err-write_pair-clause-front
returns-in_err-write_pair-clause-front g c =
    let left = drop_at c.args.others.now c.loop-to.to-index c.to-item.result c.loop-to-test.true c.to-item.is in
    on_err c.from_residual.result _ (way_breaks _ _ _ _ _ _ _ _ c.loop-to.invariant.way
    (ap (flat_map (pair_in c.args.form c.args.pairs.now c.args.valid.now.config c.args.from.now)) left) c.in_err-write_pair.ensures.front)

pub loop-to-preserved : goal.loop-to-preserved
loop-to-preserved g c =
    let left = drop_at c.args.others.now c.loop-to.to-index c.to-item.result c.loop-to-test.true c.to-item.is in
    record {
      way = way_goes_on _ _ _ _ _ _ _ _ _ c.loop-to.invariant.way (ap (flat_map (pair_in c.args.form c.args.pairs.now c.args.valid.now.config c.args.from.now)) left) c.in_ok-write_pair.ensures.ok;
      kept = c.in_ok-write_pair.ensures.cause ∙ c.loop-to.invariant.kept;
    }
