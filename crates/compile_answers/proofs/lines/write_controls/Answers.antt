use Rattle.std.proofs.Common.{◌≡◌, ◌+◌, ◌++◌, drop, ◌∙◌, arith}
use Rattle.std.proofs.lemmas.Grind.{common_steps}
use Rattle.ov_io.proofs.PieceLemmas.{on_err, way_breaks, way_goes_on}
use Rattle.report.specs.Rows.{control_lines}
use Rattle.compile_answers.specs.Lines.{controls_text}
use Rattle.compile_answers.proofs.lines.write_controls.Goals as goal

pub returns-in_err-write_each-clause-front : goal.returns-in_err-write_each-clause-front
returns-in_err-write_each-clause-front g c =
    let i = c.loop-index.index in
    let split : controls_text (drop i c.args.controllers.now) (drop i c.args.tables.now)
    ≡ control_lines c.index-controllers-index.result.name c.as_slice.result.now
    ++ controls_text (drop (i + 1) c.args.controllers.now) (drop (i + 1) c.args.tables.now) = grind (arith, common_steps) in
    on_err c.from_residual.result _ (way_breaks _ _ _ _ _ _ _ _ c.loop-index.invariant.way split c.in_err-write_each.ensures.front)

pub loop-index-preserved : goal.loop-index-preserved
loop-index-preserved g c =
    let i = c.loop-index.index in
    let split : controls_text (drop i c.args.controllers.now) (drop i c.args.tables.now)
    ≡ control_lines c.index-controllers-index.result.name c.as_slice.result.now
    ++ controls_text (drop (i + 1) c.args.controllers.now) (drop (i + 1) c.args.tables.now) = grind (arith, common_steps) in
    record {
      way = way_goes_on _ _ _ _ _ _ _ _ _ c.loop-index.invariant.way split c.in_ok-write_each.ensures.ok;
      kept = c.in_ok-write_each.ensures.cause ∙ c.loop-index.invariant.kept;
    }
