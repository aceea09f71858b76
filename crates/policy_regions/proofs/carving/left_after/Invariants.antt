use Rattle.std.proofs.Common.{◌≡◌, [], ◌∷◌, drop}
use Rattle.policy_regions.specs.Carved.{left_after}
use Rattle.policy_regions.proofs.carving.left_after.Given as goal

abbrev pub invariant-loop-claim : goal.invariant-loop-claim
invariant-loop-claim l = left_after (drop l.claim-index l.claims) l.rest.items ≡ left_after l.claims (l.region ∷ [])
