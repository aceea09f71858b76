use Rattle.std.proofs.Common.{◌≡◌, List, drop}
use Rattle.std.specs.List.{All}
use Rattle.running_nodes.specs.Moving.{PassesAll}
use Rattle.running_nodes.specs.Seats.{Seat}
use Rattle.net_machine.specs.Moving.{IsControlNode}
use Rattle.net_machine.specs.Seating.{AreLong}
use Rattle.net_machine.proofs.moving.pass_all.Given as goal

abbrev pub invariant-loop-control : goal.invariant-loop-control
invariant-loop-control l = record {
  passes : (after : List Seat) → PassesAll (drop l.control-index l.controls) l.nodes.seats after
      → PassesAll l.controls l.fn.nodes.seats after;
  long : AreLong l.nodes.seats;
  controls : All (IsControlNode l.nodes.seats) l.controls;
  failed : l.nodes.failed ≡ l.fn.nodes.failed;
}
