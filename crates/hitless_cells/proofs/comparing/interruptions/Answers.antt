use Rattle.std.proofs.Common.{◌≡◌, ◌↔◌, List, [], subst, sym, ◌∙◌}
use Rattle.std.specs.List.{All}
use Rattle.hitless_cells.specs.Keeping.{IsHitless}
use Rattle.hitless_cells.specs.Interrupted.{EachHasLine, IsInterrupted}
use Rattle.hitless_cells.specs.Lines.{interruptions}
use Rattle.hitless_cells.specs.declared.lines.Interruption.{Interruption}
use Rattle.hitless_cells.proofs.comparing.interruptions.Goals as goal

pub returns-clause-hitless : goal.returns-clause-hitless
returns-clause-hitless c =
    let x = c.args.before.now in
    let y = c.args.after.now in
    let e : c.from_vec.result ≡ interruptions x y = c.from_vec.ensures ∙ c.in_ok-lines.ensures in
    subst (λ (list : List Interruption). (list ≡ []) ↔ IsHitless x y) (sym e) c.know_lines.ensures.hitless

pub returns-clause-interrupted : goal.returns-clause-interrupted
returns-clause-interrupted c =
    let x = c.args.before.now in
    let y = c.args.after.now in
    let e : c.from_vec.result ≡ interruptions x y = c.from_vec.ensures ∙ c.in_ok-lines.ensures in
    subst (All (IsInterrupted x y)) (sym e) c.know_lines.ensures.interrupted

pub returns-clause-each : goal.returns-clause-each
returns-clause-each c =
    let x = c.args.before.now in
    let y = c.args.after.now in
    let e : c.from_vec.result ≡ interruptions x y = c.from_vec.ensures ∙ c.in_ok-lines.ensures in
    subst (EachHasLine x y) (sym e) c.know_lines.ensures.each
