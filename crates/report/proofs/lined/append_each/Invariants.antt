use Rattle.std.proofs.Common.{◌≡◌, ◌++◌, drop}
use Rattle.std.specs.Prelude.{flat_map}
use Rattle.report.proofs.lined.append_each.Given as goal

abbrev pub invariant-loop-item : goal.invariant-loop-item
invariant-loop-item g l =
    l.out ++ flat_map (g.W.LinesOf.lines l.lines) (drop l.item-index l.items) ≡ l.fn.out ++ flat_map (g.W.LinesOf.lines l.lines) l.items
