use Rattle.std.proofs.Common.{◌≡◌, ◌++◌, drop}
use Rattle.std.specs.List.{flat_map}
use Rattle.ov_io.specs.Pieces.{IsOnItsWay}
use Rattle.vpn_tables.specs.Views.{peer_of}
use Rattle.top_call.specs.Constraint.{AreInForm, sent_to}
use Rattle.top_call.proofs.sending.write_sent_to_each.Given as goal

abbrev pub invariant-loop-asking : goal.invariant-loop-asking
invariant-loop-asking g l = record {
  way : IsOnItsWay (g.K.Sink.taken l.fn.sink) (g.K.Sink.taken l.sink) l.gathered
      (flat_map (sent_to l.from (peer_of l.routes.entries)) (drop l.asking-index l.askings))
      (l.fn.gathered ++ flat_map (sent_to l.from (peer_of l.routes.entries)) l.askings);
  kept : g.K.Sink.faults l.sink ≡ g.K.Sink.faults l.fn.sink;
  form : AreInForm (drop l.asking-index l.askings);
}
