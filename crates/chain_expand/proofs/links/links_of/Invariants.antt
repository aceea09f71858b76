use Rattle.std.proofs.Common.{◌≡◌, ℕ, ◌<◌, ◌≤◌, false, [], length, get_or, replicate}
use Rattle.chain_expand.specs.Links.{HasNamed, hops_at}
use Rattle.chain_expand.proofs.links.links_of.Given as goal

abbrev pub invariant-loop-index : goal.invariant-loop-index
invariant-loop-index l = record {
  size : length l.rows ≡ 128;
  done : (k : ℕ) → k < l.index → HasNamed l.config (hops_at l.config k) (get_or l.rows k []);
  left : (k : ℕ) → l.index ≤ k → k < 128 → get_or l.rows k [] ≡ replicate 128 false;
}
