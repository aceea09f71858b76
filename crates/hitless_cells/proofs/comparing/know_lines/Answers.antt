use Rattle.hitless_cells.proofs.Exactly.{each_has_its_line, each_is_interrupted, hitless_exactly}
use Rattle.std.specs.List.{Contains}
use Rattle.std.proofs.lemmas.List.Elements.{All-contains_itself, All-weaker}
use Rattle.hitless_cells.specs.Interrupted.{IsInterrupted}
use Rattle.hitless_cells.specs.Lines.{interruptions}
use Rattle.hitless_cells.proofs.comparing.know_lines.Goals as goal

pub returns-clause-hitless : goal.returns-clause-hitless
returns-clause-hitless c = hitless_exactly c.args.before.now c.args.after.now c.know_written.ensures c.know_written-2.ensures

pub returns-clause-interrupted : goal.returns-clause-interrupted
returns-clause-interrupted c =
    let x = c.args.before.now in
    let y = c.args.after.now in
    All-weaker (Contains (interruptions x y)) (IsInterrupted x y) (λ l at. each_is_interrupted x y c.know_written.ensures c.know_written-2.ensures l at)
    (interruptions x y) (All-contains_itself (interruptions x y))

pub returns-clause-each : goal.returns-clause-each
returns-clause-each c = each_has_its_line c.args.before.now c.args.after.now c.know_written.ensures c.know_written-2.ensures
