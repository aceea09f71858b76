use Rattle.std.proofs.Common.{◌≡◌, ◌++◌, drop, flat_map}
use Rattle.hitless_cells.specs.Lines.{lines_out}
use Rattle.hitless_cells.proofs.comparing.push_all.Given as goal

abbrev pub invariant-loop-from : goal.invariant-loop-from
invariant-loop-from l = l.lines.items ++ flat_map (lines_out l.before l.after l.arrivals) (drop l.from-index l.sources) ≡ l.initial.lines.items ++ flat_map (lines_out l.before l.after l.arrivals) l.sources
