use Rattle.std.proofs.Common.{◌≡◌, List, drop}
use Rattle.running_nodes.specs.Seats.{Seat}
use Rattle.net_machine.specs.Rounds.{DeliversAll}
use Rattle.net_machine.specs.Seating.{Keeps}
use Rattle.net_machine.proofs.round.round.Given as goal

abbrev pub invariant-loop-one : goal.invariant-loop-one
invariant-loop-one l = record {
  delivers : (after : List Seat) → DeliversAll (drop l.one-index l.one-items) l.nodes.seats after
      → DeliversAll l.one-items l.fn.nodes.seats after;
  keeps : Keeps l.fn.nodes.seats l.nodes.seats;
  failed : l.nodes.failed ≡ l.fn.nodes.failed;
}
