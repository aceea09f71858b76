use Rattle.std.proofs.Common.{◌≡◌, ◌-◌, false}
use Rattle.running_laws.specs.Losing.{all_told}
use Rattle.net_machine.specs.Seating.{Keeps}
use Rattle.net_machine.proofs.lose.restart.Given as goal

abbrev pub invariant-loop-session : goal.invariant-loop-session
invariant-loop-session l = record {
  told : all_told (l.sessions - l.session) l.node l.session l.nodes.seats
      ≡ all_told l.sessions l.node 0 l.initial.nodes.seats;
  keeps : Keeps l.fn.nodes.seats l.nodes.seats;
  failed : l.fn.nodes.failed ≡ false → l.nodes.failed ≡ false;
}
