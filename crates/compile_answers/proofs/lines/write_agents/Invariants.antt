use Rattle.std.proofs.Common.{◌≡◌, ◌++◌, drop}
use Rattle.ov_io.specs.Pieces.{IsOnItsWay}
use Rattle.compile_answers.specs.Lines.{agents_text}
use Rattle.compile_answers.proofs.lines.write_agents.Given as goal

abbrev pub invariant-loop-index : goal.invariant-loop-index
invariant-loop-index g l = record {
  way : IsOnItsWay (g.K.Sink.taken l.fn.sink) (g.K.Sink.taken l.sink) l.gathered (agents_text (drop l.index l.nodes) (drop l.index l.tables))
      (l.fn.gathered ++ agents_text l.nodes l.tables);
  kept : g.K.Sink.faults l.sink ≡ g.K.Sink.faults l.fn.sink;
}
