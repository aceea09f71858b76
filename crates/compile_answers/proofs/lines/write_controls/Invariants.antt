use Rattle.std.proofs.Common.{◌≡◌, ◌++◌, drop}
use Rattle.ov_io.specs.Pieces.{IsOnItsWay}
use Rattle.compile_answers.specs.Lines.{controls_text}
use Rattle.compile_answers.proofs.lines.write_controls.Given as goal

abbrev pub invariant-loop-index : goal.invariant-loop-index
invariant-loop-index g l = record {
  way : IsOnItsWay (g.K.Sink.taken l.fn.sink) (g.K.Sink.taken l.sink) l.gathered (controls_text (drop l.index l.controllers) (drop l.index l.tables))
      (l.fn.gathered ++ controls_text l.controllers l.tables);
  kept : g.K.Sink.faults l.sink ≡ g.K.Sink.faults l.fn.sink;
}
