use Rattle.std.proofs.Common.{length}
use Rattle.hitless_cells.proofs.changes.+stops_change.Given as goal

abbrev pub decreases-stops_change : goal.decreases-stops_change
decreases-stops_change l = length l.stops.now
