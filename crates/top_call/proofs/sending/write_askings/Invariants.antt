use Rattle.std.proofs.Common.{◌≡◌, ◌++◌, drop}
use Rattle.std.specs.List.{flat_map}
use Rattle.ov_io.specs.Pieces.{IsOnItsWay}
use Rattle.top_call.specs.Constraint.{line_of}
use Rattle.top_call.proofs.sending.write_askings.Given as goal

abbrev pub invariant-loop-asking : goal.invariant-loop-asking
invariant-loop-asking g l = record {
  way : IsOnItsWay (g.K.Sink.taken l.fn.sink) (g.K.Sink.taken l.sink) l.gathered (flat_map line_of (drop l.asking-index l.askings))
      (l.fn.gathered ++ flat_map line_of l.askings);
  kept : g.K.Sink.faults l.sink ≡ g.K.Sink.faults l.fn.sink;
}
