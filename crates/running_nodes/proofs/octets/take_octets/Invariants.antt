use Rattle.std.proofs.Common.{◌≡◌, ◌+◌, ◌++◌, drop, length, take}
use Rattle.std.specs.List.{concat}
use Rattle.running_nodes.specs.Steps.{untaken}
use Rattle.running_nodes.proofs.octets.take_octets.Given as goal

abbrev pub invariant-loop-message : goal.invariant-loop-message
invariant-loop-message l = record {
  octets : l.octets.items ++ take l.n (drop l.skip (concat l.link.accepted)) ≡ take l.initial.n (drop l.initial.skip (concat l.initial.link.accepted));
  rest : untaken (l.skip + l.n) l.link.accepted ≡ untaken (l.initial.skip + l.initial.n) l.initial.link.accepted;
  breaks : l.link.breaks ≡ l.initial.link.breaks;
  many : length l.link.accepted + l._message ≡ length l.initial.link.accepted;
}
