use Rattle.std.proofs.Common.{◌≡◌, None, drop}
use Rattle.hitless_cells.specs.Lines.{best_line}
use Rattle.hitless_cells.proofs.lines.best_line.Given as goal

abbrev pub invariant-loop-cell : goal.invariant-loop-cell
invariant-loop-cell l = best_line l.from l.to l.source l.arrival l.best (drop l.cell-index l.cells) ≡ best_line l.from l.to l.source l.arrival None l.cells
