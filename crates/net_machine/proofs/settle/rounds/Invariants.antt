use Rattle.std.proofs.Common.{◌≡◌, ◌-◌, ◌+◌, List, ℕ}
use Rattle.running_nodes.specs.Seats.{Seat}
use Rattle.net_machine.specs.Settling.{RoundsFrom}
use Rattle.net_machine.specs.Seating.{Keeps}
use Rattle.net_machine.proofs.settle.rounds.Given as goal

abbrev pub invariant-loop : goal.invariant-loop
invariant-loop l = record {
  rounds : (n : ℕ) (after : List Seat)
      → RoundsFrom (l.most - l.counter) l.done l.order l.nodes.seats n after
      → RoundsFrom l.most 1 l.order l.fn.nodes.seats n after;
  done : l.done ≡ 1 + l.counter;
  keeps : Keeps l.fn.nodes.seats l.nodes.seats;
  failed : l.nodes.failed ≡ l.fn.nodes.failed;
}
