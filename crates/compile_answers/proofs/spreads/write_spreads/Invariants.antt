use Rattle.std.proofs.Common.{◌≡◌, ◌+◌, drop}
use Rattle.ov_io.specs.Pieces.{IsOnItsWay}
use Rattle.compile_answers.specs.Spreads.{spreads_from}
use Rattle.compile_answers.proofs.spreads.write_spreads.Given as goal

abbrev pub invariant-loop-index : goal.invariant-loop-index
invariant-loop-index g l = record {
  way : IsOnItsWay (g.K.Sink.taken l.fn.sink) (g.K.Sink.taken l.sink) l.gathered
      (spreads_from l.valid.config l.groups (l.index + 1) (drop l.index l.packets))
      (spreads_from l.valid.config l.groups 1 l.packets);
  kept : g.K.Sink.faults l.sink ≡ g.K.Sink.faults l.fn.sink;
}
