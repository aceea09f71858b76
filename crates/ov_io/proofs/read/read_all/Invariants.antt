use Rattle.std.proofs.Common.{◌≡◌, ◌≤◌, vec_len}
use Rattle.std.specs.Io.KnownBytes.{Consumes}
use Rattle.ov_io.proofs.read.read_all.Given as goal

abbrev pub invariant-loop-turn : goal.invariant-loop-turn
invariant-loop-turn g l = record {
  short : vec_len l.octets ≤ l.most;
  turns : l._turn ≤ vec_len l.octets;
  consumed : Consumes (g.S.Source.left l.fn.source) (g.S.Source.left l.source) l.octets.items;
  kept : g.S.Source.faults l.source ≡ g.S.Source.faults l.fn.source;
}
