use Rattle.std.proofs.Common.{◌≡◌, ◌-◌}
use Rattle.running_nodes.specs.Steps.{cleared_from}
use Rattle.net_machine.specs.Seating.{Keeps}
use Rattle.net_machine.proofs.clear.clear_node.Given as goal

abbrev pub invariant-loop-session : goal.invariant-loop-session
invariant-loop-session l = record {
  cleared : cleared_from (l.sessions - l.session) l.node l.session l.nodes.seats
      ≡ cleared_from l.sessions l.node 0 l.fn.nodes.seats;
  keeps : Keeps l.fn.nodes.seats l.nodes.seats;
  failed : l.nodes.failed ≡ l.fn.nodes.failed;
}
