use Rattle.std.proofs.Common.{◌≡◌, length}
use Rattle.decode_answers.proofs.Telling.{IsTold}
use Rattle.decode_answers.proofs.decoding.write_report.Given as goal

abbrev pub invariant-loop-rest : goal.invariant-loop-rest
invariant-loop-rest g l = record {
  so : IsTold l.octets l.wide l.rest (g.K.Sink.taken l.fn.sink) (g.K.Sink.taken l.sink) l.gathered;
  kept : g.K.Sink.faults l.sink ≡ g.K.Sink.faults l.fn.sink;
}

abbrev pub decreases-loop-rest : goal.decreases-loop-rest
decreases-loop-rest g l = length l.rest
