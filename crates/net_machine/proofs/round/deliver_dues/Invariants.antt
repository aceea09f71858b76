use Rattle.std.proofs.Common.{◌≡◌, ◌-◌, List}
use Rattle.running_nodes.specs.Seats.{Seat}
use Rattle.net_machine.specs.Rounds.{DeliversDues}
use Rattle.net_machine.specs.Seating.{Keeps}
use Rattle.net_machine.proofs.round.deliver_dues.Given as goal

abbrev pub invariant-loop : goal.invariant-loop
invariant-loop l = record {
  delivers : (after : List Seat) → DeliversDues (l.due.count - l.counter) l.due l.nodes.seats after
      → DeliversDues l.due.count l.due l.fn.nodes.seats after;
  keeps : Keeps l.fn.nodes.seats l.nodes.seats;
  failed : l.nodes.failed ≡ l.fn.nodes.failed;
}
