use Rattle.std.proofs.Common.{◌≡◌, ◌++◌, drop}
use Rattle.std.specs.List.{flat_map}
use Rattle.net_machine.specs.Runs.{tied_moment}
use Rattle.ov_io.specs.Pieces.{IsOnItsWay}
use Rattle.top_call.specs.Constraint.{AreControlNodes, sent_by}
use Rattle.top_call.proofs.sending.write_sent.Given as goal

abbrev pub invariant-loop-controller : goal.invariant-loop-controller
invariant-loop-controller g l = record {
  way : IsOnItsWay (g.K.Sink.taken l.fn.sink) (g.K.Sink.taken l.sink) l.gathered
      (flat_map (sent_by (tied_moment l.net.opening l.net.events).network l.askings) (drop l.controller-index l.controllers))
      (l.fn.gathered ++ flat_map (sent_by (tied_moment l.net.opening l.net.events).network l.askings) l.controllers);
  kept : g.K.Sink.faults l.sink ≡ g.K.Sink.faults l.fn.sink;
  there : AreControlNodes (tied_moment l.net.opening l.net.events).network.setup.topology (drop l.controller-index l.controllers);
}
