use Rattle.std.proofs.Common.{◌++◌, List, append-nil, sym, ap, ◌∙◌}
use Rattle.hitless_cells.specs.declared.lines.Interruption.{Interruption}
use Rattle.hitless_cells.proofs.Staying.{no_lines_between}
use Rattle.hitless_cells.proofs.comparing.push_between.Goals as goal

pub returns-then-is_steady : goal.returns-then-is_steady
returns-then-is_steady c =
    let none = no_lines_between c.args.before.now c.args.after.now c.args.from.now c.args.to.now (sym c.is_steady.ensures ∙ c.if-is_steady.true) in
    sym (ap (λ (ls : List Interruption). c.args.lines.now.items ++ ls) none ∙ append-nil c.args.lines.now.items)
