use Rattle.std.proofs.Common.{◌≡◌, ◌++◌, drop, flat_map}
use Rattle.hitless_cells.specs.Lines.{lines_from, lines_of}
use Rattle.hitless_cells.proofs.lines.push_lines.Given as goal

abbrev pub invariant-loop-source : goal.invariant-loop-source
invariant-loop-source l = l.lines.items ++ flat_map (lines_from l.from l.to l.cells) (drop l.source-index l.source-items) ≡ l.initial.lines.items ++ lines_of l.from l.to l.cells
