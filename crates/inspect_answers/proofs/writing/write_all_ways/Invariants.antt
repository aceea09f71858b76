use Rattle.std.proofs.Common.{◌≡◌, drop}
use Rattle.std.specs.Prelude.{flat_map}
use Rattle.ov_io.specs.Pieces.{IsOnItsWay}
use Rattle.inspect_json.specs.WayLines.{network_in}
use Rattle.inspect_answers.proofs.writing.write_all_ways.Given as goal

abbrev pub invariant-loop-from : goal.invariant-loop-from
invariant-loop-from g l = record {
  way : IsOnItsWay (g.K.Sink.taken l.fn.sink) (g.K.Sink.taken l.sink) l.gathered (flat_map (network_in l.form l.pairs l.valid.config) (drop l.from-index l.valid.config.networks))
      (flat_map (network_in l.form l.pairs l.valid.config) l.valid.config.networks);
  kept : g.K.Sink.faults l.sink ≡ g.K.Sink.faults l.fn.sink;
}
