use Rattle.std.proofs.Common.{◌≡◌, ℕ, ◌<◌, ◌==◌, ◌||◌, false, [], get_or}
use Rattle.chain_expand.specs.Links.{meets}
use Rattle.chain_expand.proofs.loops.round.Given as goal

abbrev pub invariant-loop-place : goal.invariant-loop-place
invariant-loop-place l =
    (k : ℕ) → k < l.place → get_or l.mark-items k false ≡ (k == l.target || meets (get_or l.rows k []) l.marks)
