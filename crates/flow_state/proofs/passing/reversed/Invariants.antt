use Rattle.std.proofs.Common.{◌≡◌, map}
use Rattle.flow_state.proofs.passing.reversed.Given as goal

abbrev pub invariant-loop-service : goal.invariant-loop-service
invariant-loop-service l = l.back ≡ map (λ n. n.now) l.yielded
