use Rattle.std.proofs.Common.{◌≡◌, ◌+◌, ◌++◌, true, drop, take}
use Rattle.std.specs.List.{list_all}
use Rattle.ov_io.specs.Pieces.{IsOnItsWay}
use Rattle.inspect_walks.specs.Walks.{compiled_agents}
use Rattle.inspect_answers.specs.Explained.{has_walk_size, packets_from}
use Rattle.inspect_answers.proofs.explaining.write_packets.Given as goal

abbrev pub invariant-loop-index : goal.invariant-loop-index
invariant-loop-index g l = record {
  way : IsOnItsWay (g.K.Sink.taken l.fn.sink) (g.K.Sink.taken l.sink) l.gathered (packets_from l.form l.valid (l.index + 1) (drop l.index l.packets))
      (l.fn.gathered ++ packets_from l.form l.valid 1 l.packets);
  kept : g.K.Sink.faults l.sink ≡ g.K.Sink.faults l.fn.sink;
  agents : l.agents ≡ compiled_agents l.valid;
  sized : list_all (has_walk_size l.valid) (take l.index l.packets) ≡ true;
}
