use Rattle.std.proofs.Common.{◌≡◌, map, take}
use Rattle.chain_expand.proofs.numbers.numbers.Given as goal

abbrev pub invariant-loop-service : goal.invariant-loop-service
invariant-loop-service l = l.numbers ≡ map (λ s. s.id) (take l.service-index l.services)
