use Rattle.std.proofs.Common.{◌≡◌, ◌+◌, ◌++◌, drop, ◌∙◌, arith}
use Rattle.std.proofs.lemmas.Grind.{common_steps}
use Rattle.ov_io.proofs.PieceLemmas.{cause_from, ends_cut, ends_whole, on_err, way_breaks, way_goes_on}
use Rattle.report.specs.Outcomes.{spread_line}
use Rattle.compile_answers.specs.Spreads.{spreads_from, scale_text}
use Rattle.compile_answers.proofs.spreads.write_spreads.Goals as goal

pub returns-in_err-write_one-clause-front : goal.returns-in_err-write_one-clause-front
unfolding scale_text
returns-in_err-write_one-clause-front g c =
    let i = c.loop-index.index in
    let config = c.args.valid.now.config in
    let groups = c.args.groups.now in
    let split : spreads_from config groups (i + 1) (drop i c.args.packets.now)
    ≡ spread_line (i + 1) c.scale_reach-spread.result ++ spreads_from config groups (i + 1 + 1) (drop (i + 1) c.args.packets.now) =
    grind (arith, common_steps) in
    on_err c.from_residual.result _ (way_breaks _ _ _ _ _ _ _ _ c.loop-index.invariant.way split c.in_err-write_one.ensures.front)

pub loop-index-preserved : goal.loop-index-preserved
loop-index-preserved g c =
    let i = c.loop-index.index in
    let config = c.args.valid.now.config in
    let groups = c.args.groups.now in
    let split : spreads_from config groups (i + 1) (drop i c.args.packets.now)
    ≡ spread_line (i + 1) c.scale_reach-spread.result ++ spreads_from config groups (i + 1 + 1) (drop (i + 1) c.args.packets.now) =
    grind (arith, common_steps) in
    record {
      way = way_goes_on _ _ _ _ _ _ _ _ _ c.loop-index.invariant.way split c.in_ok-write_one.ensures.ok;
      kept = c.in_ok-write_one.ensures.cause ∙ c.loop-index.invariant.kept;
    }

pub returns-clause-ok : goal.returns-clause-ok
unfolding scale_text
returns-clause-ok g c =
    ends_whole c.write_gathered.result _ _ _ _ _ _ c.loop-index.invariant.way (grind (arith, common_steps)) c.write_gathered.ensures.ok

pub returns-clause-front : goal.returns-clause-front
unfolding scale_text
returns-clause-front g c =
    ends_cut c.write_gathered.result _ _ _ _ _ _ c.loop-index.invariant.way c.write_gathered.ensures.front

pub returns-clause-cause : goal.returns-clause-cause
returns-clause-cause g c = cause_from c.write_gathered.result _ _ _ c.loop-index.invariant.kept c.write_gathered.ensures.cause
