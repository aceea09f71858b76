use Rattle.std.proofs.Common.{◌≡◌, ◌++◌, drop, flat_map}
use Rattle.hitless_cells.specs.Lines.{lines_at, lines_from}
use Rattle.hitless_cells.proofs.lines.push_to_each.Given as goal

abbrev pub invariant-loop-arrival : goal.invariant-loop-arrival
invariant-loop-arrival l = l.lines.items ++ flat_map (lines_at l.from l.to l.cells l.source) (drop l.arrival-index l.arrival-items) ≡ l.initial.lines.items ++ lines_from l.from l.to l.cells l.source
