use Rattle.std.proofs.Common.{◌≡◌, ◌++◌, drop, flat_map}
use Rattle.hitless_cells.specs.Openings.{stops_at}
use Rattle.hitless_cells.proofs.stops.push_stops.Given as goal

abbrev pub invariant-loop-number : goal.invariant-loop-number
invariant-loop-number l = l.stops.items ++ flat_map (stops_at l.valid) (drop l.number-index l.numbers) ≡ l.initial.stops.items ++ flat_map (stops_at l.valid) l.numbers
