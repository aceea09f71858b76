use Rattle.std.proofs.Common.{◌≡◌, ◌+◌, drop}
use Rattle.std.specs.List.{AllByRecursion}
use Rattle.decode_answers.specs.Entries.{HasEntryForm}
use Rattle.decode_answers.proofs.LogTelling.{IsTold}
use Rattle.decode_answers.proofs.replaying.write_entries.Given as goal

abbrev pub invariant-loop-index : goal.invariant-loop-index
invariant-loop-index g l = record {
  so : IsTold l.log (l.index + 1) (drop l.index l.log) l.restart (g.K.Sink.taken l.fn.sink) (g.K.Sink.taken l.sink) l.gathered;
  form : AllByRecursion HasEntryForm (drop l.index l.log);
  kept : g.K.Sink.faults l.sink ≡ g.K.Sink.faults l.fn.sink;
}
