use Rattle.std.proofs.Common.{◌≡◌, ◌+◌, ◌∷◌, ◌++◌, List, append_assoc, ap, drop, flat_map, sym, ◌∙◌}
use Rattle.ov_types.proofs.FirstLemmas.{next_is}
use Rattle.hitless_cells.specs.Lines.{lines_between}
use Rattle.hitless_cells.specs.declared.ends.Ends.{Ends}
use Rattle.hitless_cells.specs.declared.lines.Interruption.{Interruption}
use Rattle.hitless_cells.proofs.comparing.push_out.Goals as goal

pub loop-to-preserved : goal.loop-to-preserved
loop-to-preserved c =
    let all = c.args.arrivals.now in
    let i = c.loop-to.to-index in
    let each : Ends → List Interruption = lines_between c.args.before.now c.args.after.now c.args.from.now in
    let left : drop i all ≡ c.to-item.result ∷ drop (i + 1) all = next_is all i c.to-item.result c.loop-to-test.true c.to-item.is in
    ap (λ (ls : List Interruption). ls ++ flat_map each (drop (i + 1) all)) c.in_ok-push_between.ensures
    ∙ append_assoc c.loop-to.lines.items (each c.to-item.result) (flat_map each (drop (i + 1) all))
    ∙ ap (λ (rest : List Ends). c.loop-to.lines.items ++ flat_map each rest) (sym left)
    ∙ c.loop-to.invariant
