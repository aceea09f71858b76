use Rattle.std.proofs.Common.{◌≡◌, ◌-◌, length}
use Rattle.chain_expand.specs.Links.{IsReached}
use Rattle.chain_expand.proofs.loops.reached.Given as goal

abbrev pub invariant-loop : goal.invariant-loop
invariant-loop l = record {
  end : l.end ≡ length l.config.chains;
  size : length l.marks ≡ 128;
  reached : IsReached l.config l.target (l.counter - 1) l.marks;
}
