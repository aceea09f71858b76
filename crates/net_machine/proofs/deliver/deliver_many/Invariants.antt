use Rattle.std.proofs.Common.{◌≡◌, ◌-◌, List}
use Rattle.running_nodes.specs.Seats.{Seat}
use Rattle.net_machine.specs.Deliveries.{DeliversMany}
use Rattle.net_machine.specs.Seating.{Keeps}
use Rattle.net_machine.proofs.deliver.deliver_many.Given as goal

abbrev pub invariant-loop : goal.invariant-loop
invariant-loop l = record {
  delivers : (after : List Seat) → DeliversMany (l.n - l.counter) l.nodes.seats l.ends after
      → DeliversMany l.n l.fn.nodes.seats l.ends after;
  keeps : Keeps l.fn.nodes.seats l.nodes.seats;
  failed : l.nodes.failed ≡ l.fn.nodes.failed;
}
