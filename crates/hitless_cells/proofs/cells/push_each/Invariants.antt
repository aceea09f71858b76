use Rattle.std.proofs.Common.{◌≡◌, ◌++◌, drop, flat_map}
use Rattle.hitless_cells.specs.Cells.{cells_on}
use Rattle.hitless_cells.proofs.cells.push_each.Given as goal

abbrev pub invariant-loop-compared : goal.invariant-loop-compared
invariant-loop-compared l = l.cells.items ++ flat_map (cells_on l.before.valid.now l.before.own.now l.before.target.now l.after.valid.now l.after.own.now l.after.target.now) (drop l.compared-index l.regions) ≡ l.initial.cells.items ++ flat_map (cells_on l.before.valid.now l.before.own.now l.before.target.now l.after.valid.now l.after.own.now l.after.target.now) l.regions
