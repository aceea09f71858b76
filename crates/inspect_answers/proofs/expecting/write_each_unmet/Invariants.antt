use Rattle.std.proofs.Common.{◌≡◌, ◌≤◌, ◌+◌, ◌++◌, drop}
use Rattle.ov_io.specs.Pieces.{IsOnItsWay}
use Rattle.inspect_answers.specs.Expecting.{unmet_count, unmet_from}
use Rattle.inspect_answers.proofs.expecting.write_each_unmet.Given as goal

abbrev pub invariant-loop-index : goal.invariant-loop-index
invariant-loop-index g l = record {
  way : IsOnItsWay (g.K.Sink.taken l.fn.sink) (g.K.Sink.taken l.sink) l.gathered (unmet_from l.form l.valid.config (l.index + 1) (drop l.index l.packets))
      (l.fn.gathered ++ unmet_from l.form l.valid.config 1 l.packets);
  count : l.count + unmet_count l.valid.config (drop l.index l.packets) ≡ unmet_count l.valid.config l.packets;
  few : l.count ≤ l.index;
  kept : g.K.Sink.faults l.sink ≡ g.K.Sink.faults l.fn.sink;
}
