use Rattle.std.proofs.Common.{◌≡◌, ◌++◌, drop, flat_map}
use Rattle.hitless_cells.specs.Lines.{lines_between, lines_out}
use Rattle.hitless_cells.proofs.comparing.push_out.Given as goal

abbrev pub invariant-loop-to : goal.invariant-loop-to
invariant-loop-to l = l.lines.items ++ flat_map (lines_between l.before l.after l.from) (drop l.to-index l.arrivals) ≡ l.initial.lines.items ++ lines_out l.before l.after l.arrivals l.from
