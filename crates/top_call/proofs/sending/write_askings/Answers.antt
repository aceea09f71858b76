use Rattle.std.proofs.Common.{ap, ◌∙◌}
use Rattle.std.specs.List.{flat_map}
use Rattle.ov_io.proofs.PieceLemmas.{on_err, way_breaks, way_goes_on}
use Rattle.compile_answers.proofs.LineLemmas.{drop_at}
use Rattle.top_call.specs.Constraint.{line_of}
use Rattle.top_call.proofs.sending.write_askings.Goals as goal

pub returns-in_err-write_asking-clause-front : goal.returns-in_err-write_asking-clause-front
returns-in_err-write_asking-clause-front g c =
    let left = drop_at c.args.askings.now c.loop-asking.asking-index c.asking-item.result c.loop-asking-test.true c.asking-item.is in
    on_err c.from_residual.result _ (way_breaks _ _ _ _ _ _ _ _ c.loop-asking.invariant.way
    (ap (flat_map line_of) left) c.in_err-write_asking.ensures.front)

pub loop-asking-preserved : goal.loop-asking-preserved
loop-asking-preserved g c =
    let left = drop_at c.args.askings.now c.loop-asking.asking-index c.asking-item.result c.loop-asking-test.true c.asking-item.is in
    record {
      way = way_goes_on _ _ _ _ _ _ _ _ _ c.loop-asking.invariant.way (ap (flat_map line_of) left) c.in_ok-write_asking.ensures.ok;
      kept = c.in_ok-write_asking.ensures.cause ∙ c.loop-asking.invariant.kept;
    }
