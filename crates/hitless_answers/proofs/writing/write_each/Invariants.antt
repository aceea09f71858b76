use Rattle.std.proofs.Common.{◌≡◌, ◌++◌, drop}
use Rattle.std.specs.Prelude.{flat_map}
use Rattle.ov_io.specs.Pieces.{IsOnItsWay}
use Rattle.hitless_answers.proofs.writing.write_each.Given as goal

abbrev pub invariant-loop-item : goal.invariant-loop-item
invariant-loop-item g l = record {
  way : IsOnItsWay (g.K.Sink.taken l.fn.sink) (g.K.Sink.taken l.sink) l.gathered (flat_map (g.W.LinesOf.lines l.lines) (drop l.item-index l.items))
      (l.fn.gathered ++ flat_map (g.W.LinesOf.lines l.lines) l.items);
  kept : g.K.Sink.faults l.sink ≡ g.K.Sink.faults l.fn.sink;
}
