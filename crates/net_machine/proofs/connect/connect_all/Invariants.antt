use Rattle.std.proofs.Common.{◌≡◌, List, drop}
use Rattle.running_nodes.specs.Seats.{Seat}
use Rattle.net_machine.specs.Connections.{ConnectsAll}
use Rattle.net_machine.specs.Seating.{Keeps}
use Rattle.net_machine.proofs.connect.connect_all.Given as goal

abbrev pub invariant-loop-ends : goal.invariant-loop-ends
invariant-loop-ends l = record {
  connects : (after : List Seat) → ConnectsAll (drop l.ends-index l.order) l.nodes.seats after
      → ConnectsAll l.order l.fn.nodes.seats after;
  keeps : Keeps l.fn.nodes.seats l.nodes.seats;
  failed : l.nodes.failed ≡ l.fn.nodes.failed;
}
