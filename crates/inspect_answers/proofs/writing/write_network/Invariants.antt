use Rattle.std.proofs.Common.{◌≡◌, ◌++◌, drop}
use Rattle.std.specs.Prelude.{flat_map}
use Rattle.ov_io.specs.Pieces.{IsOnItsWay}
use Rattle.inspect_json.specs.WayLines.{pair_in}
use Rattle.inspect_answers.proofs.writing.write_network.Given as goal

abbrev pub invariant-loop-to : goal.invariant-loop-to
invariant-loop-to g l = record {
  way : IsOnItsWay (g.K.Sink.taken l.fn.sink) (g.K.Sink.taken l.sink) l.gathered (flat_map (pair_in l.form l.pairs l.valid.config l.from) (drop l.to-index l.others))
      (l.fn.gathered ++ flat_map (pair_in l.form l.pairs l.valid.config l.from) l.others);
  kept : g.K.Sink.faults l.sink ≡ g.K.Sink.faults l.fn.sink;
}
