use Rattle.std.proofs.Common.{◌≡◌, ◌++◌, true, drop}
use Rattle.std.specs.List.{list_all}
use Rattle.inspect_walks.specs.Sizes.{has_step_size}
use Rattle.inspect_walks.specs.Taking.{told_steps}
use Rattle.inspect_walks.proofs.walking.told_steps.Given as goal

abbrev pub invariant-loop-hop : goal.invariant-loop-hop
invariant-loop-hop l = record {
  told : l.steps.items ++ told_steps l.valid l.agents l.address.0 (drop l.hop-index l.hops) ≡ told_steps l.valid l.agents l.address.0 l.hops;
  sized : list_all has_step_size l.steps.items ≡ true;
}
