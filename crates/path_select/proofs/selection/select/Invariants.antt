use Rattle.path_select.proofs.Best.{IsBest}
use Rattle.path_select.proofs.selection.select.Given as goal

abbrev pub invariant-loop-index : goal.invariant-loop-index
invariant-loop-index l = IsBest l.paths l.index l.place l.best
